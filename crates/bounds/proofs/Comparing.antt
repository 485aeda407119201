-- How answers compare, one after another.
use Rattle.std.proofs.Common.{ℕ, Some, None, Option, arith}
use Rattle.bounds.specs.Questions.{NoMore}

pub no_more_join : (a b c : Option ℕ) → NoMore a b → NoMore b c → NoMore a c
no_more_join None None None h k = tt
no_more_join None None (Some z) h k = k
no_more_join None (Some y) None h k = tt
no_more_join None (Some y) (Some z) h k = h
no_more_join (Some x) None None h k = tt
no_more_join (Some x) None (Some z) h k = absurd k
no_more_join (Some x) (Some y) None h k = tt
no_more_join (Some x) (Some y) (Some z) h k = omega arith
