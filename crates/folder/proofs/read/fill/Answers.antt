use Rattle.std.proofs.Common.{◌≡◌, ℕ, ◌+◌, ◌≤◌, List, ◌++◌, rules, length, take, drop, sym, ap, ◌∙◌, subst, le_refl, length-take-le, take-add, drop_at}
use Rattle.std.proofs.lemmas.List.{take-append-le}
use Rattle.std.proofs.lemmas.Slice.{take-put_mid_below}
use Rattle.std.specs.Io.KnownBytes.{Consumes}
use borrow.Rule.Slice.PartMut.{put_mid, post_of}
use Rattle.folder.proofs.StreamLemmas.{Consumes-trans}
use Rattle.folder.proofs.read.fill.Goals as goal

-- the first n bytes of a part stand behind the front
take_read : (a k n : ℕ) (xs ys : List ℕ) → a ≤ length xs → n ≤ length ys → take (a + n) (put_mid a k xs ys) ≡ take a xs ++ take n ys
take_read a k n xs ys within fits =
    let rest = post_of a k xs in
    let part = ap (take n) (drop_at (take a xs) (ys ++ rest) a (length-take-le a xs within)) ∙ take-append-le n ys rest fits in
    take-add a n (put_mid a k xs ys)
    ∙ ap (λ l. l ++ take n (drop a (put_mid a k xs ys))) (take-put_mid_below a k xs ys a (le_refl a) within)
    ∙ ap (λ l. take a xs ++ l) part

pub loop-filled-preserved : goal.loop-filled-preserved
loop-filled-preserved g c =
    let before = c.loop-filled.invariant in
    let bytes = take_read c.loop-filled.filled _ c.in_ok-read.read c.loop-filled.room c.read_some.new.room before.within c.in_ok-read.ensures.bound.0 in
    record {
      within = search rules;
      read = subst (Consumes _ _) (sym bytes) (Consumes-trans _ _ _ _ _ before.read c.in_ok-read.ensures.bytes.0);
      later = search rules;
    }
