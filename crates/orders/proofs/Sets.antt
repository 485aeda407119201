-- Sets of tasks: what is in them, how many, and the first tasks of an order.
use Rattle.std.proofs.Common.{◌≡◌, ℕ, zero, suc, ◌+◌, ◌-◌, ◌<◌, ◌≤◌, Bool, true, false, cond, not, ltb, List, length, get_or, set, sym, refl, ap, ◌∙◌, inl, inr, mul-one, add-one, arith}
use Rattle.std.proofs.lemmas.List.{ext_get_or, get_or_past, get_or-set_same, get_or-set_other, length-set, length-replicate}
use Rattle.std.proofs.lemmas.Bool.{cases_eq, cases_Bool, cases_lt, cond-true, cond-false, both_ways, lt-ltb, le-ltb}
use Rattle.table.specs.declared.row.Row.{Row}
use Rattle.table.specs.Rows.{Names}
use Rattle.table.specs.Places.{nth, put}
use Rattle.table.proofs.Placed.{nth_at, nth_next, put_at, nth_put_same, nth_put_other, nth_replicate, length_put, nth_none}
use Rattle.orders.specs.Assigner.{full}
use Rattle.bounds.specs.Questions.{In}
use Rattle.bounds.specs.Loads.{sum_to, sum_over}
use Rattle.bounds.specs.Orders.{task_at, Order, first}
use Rattle.bounds.proofs.Picked.{count_none, count_set}
use Rattle.bounds.specs.Sounds.{in_low}
use Rattle.bounds.proofs.Summing.{sum_le}
use Rattle.orders.proofs.Puts.{put_same, put_twice}

-- two sets with the same tasks in 32 places are one
pub same_set : (s u : List Bool) → length s ≡ 32 → length u ≡ 32 → ((k : ℕ) → 1 ≤ k → k ≤ 32 → nth s k false ≡ nth u k false) → s ≡ u
same_set s u a b h = ext_get_or false s u (a ∙ sym b) (λ j l. sym (nth_next s j false) ∙ h (j + 1) (omega arith) (omega arith) ∙ nth_next u j false)

-- a task is out once it is taken out, and no other comes in or goes
pub out : (s : List Bool) (k : ℕ) → nth (put s k false) k false ≡ false
out s k =
    elim (cases_lt k 1) [
      | inl z ↦ ap (λ j. nth (put s k false) j false) (let e : k ≡ 0 = omega arith in e) ∙ nth_none (put s k false) false
      | inr low ↦ elim (cases_lt (length s) k) [
        | inl past ↦ nth_at (put s k false) k false low ∙ get_or_past (put s k false) (k - 1) false (omega (arith, length_put s k false))
        | inr in' ↦ nth_put_same s k false false low in'
      ]
    ]

pub was_in : (s : List Bool) (k j : ℕ) → In (put s k false) j → (j ≡ k → ⊥) × In s j
was_in s k j y =
    let apart : j ≡ k → ⊥ = λ e. both_ways _ (out s k) (ap (λ i. nth (put s k false) i false) (sym e) ∙ y) in
    (apart, sym (nth_put_other s k j false false apart) ∙ y)

pub still_in : (s : List Bool) (k j : ℕ) → (j ≡ k → ⊥) → In s j → In (put s k false) j
still_in s k j d y = nth_put_other s k j false false d ∙ y

-- out and in again, or in and out again, leaves the set as it was
pub put_back : (s : List Bool) (k : ℕ) (b : Bool) → nth s k false ≡ b → 1 ≤ k → put (put s k (not b)) k b ≡ s
put_back s k b is low = put_twice s k (not b) b low ∙ ap (put s k) (sym is) ∙ put_same s k false low

pub first_length : (order : List ℕ) (p : ℕ) → length (first order p) ≡ 32
unfolding first
first_length order zero = length-replicate {A = Bool} 32 false
first_length order (suc p) = length_put (first order p) (task_at order p) true ∙ first_length order p

-- a task is among the first p exactly when it is one of them
pub first_in : (order : List ℕ) (p k : ℕ) → In (first order p) k → (q : ℕ) × (q < p) × (task_at order q ≡ k)
unfolding first
first_in order zero k y = absurd (both_ways _ (nth_replicate 32 false k) y)
first_in order (suc p) k y =
    elim (cases_eq k (task_at order p)) [
      | inl e ↦ (p, omega arith, sym e)
      | inr d ↦ let was = first_in order p k (sym (nth_put_other (first order p) (task_at order p) k true false d) ∙ y) in (was.0, omega (arith, was.1), was.2)
    ]

module _ (rows : List Row) (few : length rows ≤ 32) (order : List ℕ) (o : Order rows order) where
  pub not_first : (p q : ℕ) → p ≤ q → q < length rows → nth (first order p) (task_at order q) false ≡ false
  not_first p q le l =
      elim (cases_Bool (nth (first order p) (task_at order q) false)) [
        | inl y ↦ absurd (let was = first_in order p (task_at order q) y in let e = o.apart was.0 q (omega (arith, was.1)) l was.2 in omega (arith, was.1))
        | inr z ↦ z
      ]

  -- p tasks are among the first p
  count_first : (p : ℕ) → p ≤ length rows → sum_over (first order p) (λ _. 1) (length rows) ≡ p
  unfolding first
  count_first zero le = count_none (length rows)
  count_first (suc p) le =
      let k = task_at order p in
      let row = o.each p (omega arith) in
      ap (λ s. sum_over s (λ _. 1) (length rows)) (put_at (first order p) k true row.0)
      ∙ count_set (first order p) (k - 1) (length rows) (omega (arith, row.1)) (omega (arith, row.1, first_length order p)) (sym (nth_at (first order p) k false row.0) ∙ not_first p p (omega arith) (omega arith))
      ∙ ap (λ x. x + 1) (count_first p (omega arith)) ∙ add-one p

-- a set of n tasks among n has them all
pub all_in : (s : List Bool) (n : ℕ) → n ≤ sum_over s (λ _. 1) n → (k : ℕ) → 1 ≤ k → k ≤ n → In s k
unfolding sum_to
all_in s zero h k low high = absurd (omega arith)
all_in s (suc n) h k low high =
    let most = sum_le (λ j. cond (nth s j false) 1 0) 1 n (λ j a b. elim (cases_Bool (nth s j false)) [ inl y ↦ omega (arith, cond-true {A = ℕ} _ 1 0 y) | inr z ↦ omega (arith, cond-false {A = ℕ} _ 1 0 z) ]) in
    elim (cases_Bool (nth s (suc n) false)) [
      | inl y ↦ elim (cases_eq k (suc n)) [ inl e ↦ ap (λ j. nth s j false) e ∙ y | inr d ↦ all_in s n (omega (arith, cond-true {A = ℕ} (nth s (suc n) false) 1 0 y)) k low (omega arith) ]
      | inr z ↦ absurd (omega (arith, most, mul-one n, cond-false {A = ℕ} (nth s (suc n) false) 1 0 z))
    ]

-- every row stands in an order
pub every : (rows : List Row) → length rows ≤ 32 → (order : List ℕ) → Order rows order → (k : ℕ) → Names rows k → In (first order (length rows)) k
every rows few order o k names = all_in (first order (length rows)) (length rows) (omega (arith, count_first rows few order o (length rows) (omega arith))) k names.0 names.1

-- the set of all tasks of n rows
pub full_length : (n : ℕ) → length (full n) ≡ 32
unfolding full
full_length zero = length-replicate {A = Bool} 32 false
full_length (suc n) = length-set (full n) n true ∙ full_length n

pub full_out : (n k : ℕ) → n < k → nth (full n) k false ≡ false
unfolding full
full_out zero k l = nth_replicate 32 false k
full_out (suc n) k l = nth_at (set (full n) n true) k false (omega arith) ∙ get_or-set_other (full n) n (k - 1) true false (λ e. omega arith) ∙ sym (nth_at (full n) k false (omega arith)) ∙ full_out n k (omega arith)

pub full_in : (n k : ℕ) → 1 ≤ k → k ≤ n → k ≤ 32 → In (full n) k
unfolding full
full_in zero k low high few = absurd (omega arith)
full_in (suc n) k low high few =
    nth_at (set (full n) n true) k false low
    ∙ elim (cases_eq (k - 1) n) [
      | inl e ↦ ap (λ j. get_or (set (full n) n true) j false) e ∙ get_or-set_same (full n) n true false (omega (arith, full_length n))
      | inr d ↦ get_or-set_other (full n) n (k - 1) true false d ∙ sym (nth_at (full n) k false low) ∙ full_in n k low (omega arith) few
    ]

-- it is the set with a row in each place before n
pub full_by : (n : ℕ) (s : List Bool) → length s ≡ 32 → ((place : ℕ) → place < 32 → get_or s place false ≡ ltb place n) → s ≡ full n
full_by n s long h =
    same_set s (full n) long (full_length n) (λ k low high.
    nth_at s k false low ∙ h (k - 1) (omega arith)
    ∙ elim (cases_lt n k) [
      | inl past ↦ le-ltb (k - 1) n (omega arith) ∙ sym (full_out n k past)
      | inr in' ↦ lt-ltb (k - 1) n (omega arith) ∙ sym (full_in n k low in' high)
    ])

-- no number past the last row is among the first of an order
pub first_out : (rows : List Row) (order : List ℕ) → Order rows order → (p k : ℕ) → p ≤ length rows → length rows < k → nth (first order p) k false ≡ false
first_out rows order o p k le past =
    elim (cases_Bool (nth (first order p) k false)) [
      | inl y ↦ absurd (let was = first_in order p k y in omega (arith, was.1, was.2, (o.each was.0 (omega (arith, was.1))).1))
      | inr z ↦ z
    ]

pub count_all : (s : List Bool) (n : ℕ) → ((k : ℕ) → 1 ≤ k → k ≤ n → In s k) → sum_over s (λ _. 1) n ≡ n
unfolding sum_to
count_all s zero h = refl
count_all s (suc n) h = omega (arith, count_all s n (λ k a b. h k a (omega arith)), cond-true {A = ℕ} (nth s (suc n) false) 1 0 (h (suc n) (omega arith) (omega arith)))

-- a set of no tasks among n has none of them
pub none_in : (s : List Bool) (n : ℕ) → sum_over s (λ _. 1) n ≡ 0 → (k : ℕ) → 1 ≤ k → k ≤ n → nth s k false ≡ false
unfolding sum_to
none_in s zero h k low high = absurd (omega arith)
none_in s (suc n) h k low high =
    elim (cases_Bool (nth s (suc n) false)) [
      | inl y ↦ absurd (omega (arith, cond-true {A = ℕ} (nth s (suc n) false) 1 0 y))
      | inr z ↦ elim (cases_eq k (suc n)) [ inl e ↦ ap (λ j. nth s j false) e ∙ z | inr d ↦ none_in s n (omega (arith, cond-false {A = ℕ} (nth s (suc n) false) 1 0 z)) k low (omega arith) ]
    ]

-- one fewer once a task is taken out
pub count_out : (s : List Bool) (k n : ℕ) → length s ≡ 32 → k ≤ n → n ≤ 32 → In s k → sum_over (put s k false) (λ _. 1) n + 1 ≡ sum_over s (λ _. 1) n
count_out s k n long le few y =
    let low = in_low s k y in
    sym (count_set (put s k false) (k - 1) n (omega arith) (omega (arith, length_put s k false)) (sym (nth_at (put s k false) k false low) ∙ out s k))
    ∙ ap (λ u. sum_over u (λ _. 1) n) (sym (put_at (put s k false) k true low) ∙ put_back s k true y low)

-- the first p tasks are settled by these
pub first_same : (a b : List ℕ) (p : ℕ) → ((q : ℕ) → q < p → task_at a q ≡ task_at b q) → first a p ≡ first b p
unfolding first
first_same a b zero same = refl
first_same a b (suc p) same =
    ap (λ s. put s (task_at a p) true) (first_same a b p (λ q l. same q (omega arith)))
    ∙ ap (λ k. put (first b p) k true) (same p (omega arith))

-- a task of a list of rows is among its first ones
pub member_first : (tasks : List ℕ) (n : ℕ) → n ≤ 32 → {l : ℕ} → ((p : ℕ) → p < l → (1 ≤ task_at tasks p) × (task_at tasks p ≤ n)) → (m p : ℕ) → p < m → m ≤ l → In (first tasks m) (task_at tasks p)
unfolding first
member_first tasks n few inside zero p lt le = absurd (omega arith)
member_first tasks n few inside (suc m) p lt le =
    let row = inside m (omega arith) in
    elim (cases_eq (task_at tasks p) (task_at tasks m)) [
      | inl e ↦ ap (λ k. nth (first tasks (suc m)) k false) e ∙ nth_put_same (first tasks m) (task_at tasks m) true false row.0 (omega (arith, row.1, first_length tasks m))
      | inr d ↦ nth_put_other (first tasks m) (task_at tasks m) (task_at tasks p) true false d ∙ member_first tasks n few inside m p (elim (cases_eq p m) [ inl e ↦ absurd (d (ap (task_at tasks) e)) | inr f ↦ omega arith ]) (omega arith)
    ]
