-- Three sheets have one first fault.
use Rattle.std.proofs.Common.{◌≡◌, ℕ, ◌+◌, ap, sym, ◌∙◌}
use Rattle.table.specs.declared.fault.Fault.{Fault}
use Rattle.table.specs.declared.fault.Fault.TheVariants.{RepeatedTask, BadAnswer, NoAnswer, BadRow, BadTest, BadOrder}
use Rattle.sheets.specs.declared.form.Column.TheVariants.{Estimate}
use Rattle.sheets.specs.declared.sheet.Sheet.{Sheet}
use Rattle.sheets.specs.Forms.{place}
use Rattle.sheets.specs.Sheets.{left_of}
use Rattle.sheets.specs.Pairs.{count_of, name_place, IsNewName, Answers, IsAnswered, EachLine, FirstLine, PairFails}
use Rattle.sheets.proofs.Outcomes.{level}
use Rattle.marking.specs.Questions.{HasTest, TestFails, HasRow, RowFails, HasEstimate, EstimateFails, IsPaired, SheetsFail, by_test, by_pair, by_row, by_estimate}

module _ (question : ℕ → Type 0) (n : ℕ) where
  -- one line is the first of which a question fails
  one_line : (k l : ℕ) → FirstLine question n k → FirstLine question n l → k ≡ l
  one_line k l a b = level k l (λ low. a.2 (b.3 k a.0 low)) (λ low. b.2 (a.3 l b.0 low))

  -- and no line is, where it holds of each
  none_first : (k : ℕ) → EachLine question n → FirstLine question n k → ⊥
  none_first k each first = first.2 (each k first.0 first.1)

module _ (board tasks answer : Sheet) where
  no_test_fault : (f : Fault) → HasTest board → TestFails board f → ⊥
  no_test_fault f has m = m.2 (has m.0)

  one_test_fault : (f g : Fault) → TestFails board f → TestFails board g → f ≡ g
  one_test_fault f g a b =
      let same = level (left_of board a.0) (left_of board b.0) (λ low. a.2 (b.3 a.0 low)) (λ low. b.2 (a.3 b.0 low)) in
      a.1 ∙ ap (λ (n : ℕ). BadTest (place board.number 2 (n + 1))) same ∙ sym b.1

  no_pair_fault : (f : Fault) → IsPaired tasks answer → PairFails tasks answer f → ⊥
  no_pair_fault (RepeatedTask p) paired m = none_first (IsNewName tasks) (count_of tasks) m.0 paired.0 m.2
  no_pair_fault (BadAnswer p) paired m = none_first (Answers tasks answer) (count_of answer) m.1.0 paired.1 m.1.2
  no_pair_fault (NoAnswer p) paired m = none_first (IsAnswered tasks answer) (count_of tasks) m.2.0 paired.2 m.2.2
  no_pair_fault f paired m = m

  one_pair_fault : (f g : Fault) → PairFails tasks answer f → PairFails tasks answer g → f ≡ g
  one_pair_fault (RepeatedTask p) g a b = go g b where
    go : (h : Fault) → PairFails tasks answer h → RepeatedTask p ≡ h
    go (RepeatedTask q) b = ap RepeatedTask (a.1 ∙ ap (name_place tasks) (one_line (IsNewName tasks) (count_of tasks) a.0 b.0 a.2 b.2) ∙ sym b.1)
    go (BadAnswer q) b = absurd (none_first (IsNewName tasks) (count_of tasks) a.0 b.0 a.2)
    go (NoAnswer q) b = absurd (none_first (IsNewName tasks) (count_of tasks) a.0 b.0 a.2)
    go h b = absurd b
  one_pair_fault (BadAnswer p) g a b = go g b where
    go : (h : Fault) → PairFails tasks answer h → BadAnswer p ≡ h
    go (RepeatedTask q) b = absurd (none_first (IsNewName tasks) (count_of tasks) b.0 a.0 b.2)
    go (BadAnswer q) b = ap BadAnswer (a.1.1 ∙ ap (name_place answer) (one_line (Answers tasks answer) (count_of answer) a.1.0 b.1.0 a.1.2 b.1.2) ∙ sym b.1.1)
    go (NoAnswer q) b = absurd (none_first (Answers tasks answer) (count_of answer) a.1.0 b.1 a.1.2)
    go h b = absurd b
  one_pair_fault (NoAnswer p) g a b = go g b where
    go : (h : Fault) → PairFails tasks answer h → NoAnswer p ≡ h
    go (RepeatedTask q) b = absurd (none_first (IsNewName tasks) (count_of tasks) b.0 a.0 b.2)
    go (BadAnswer q) b = absurd (none_first (Answers tasks answer) (count_of answer) b.1.0 a.1 b.1.2)
    go (NoAnswer q) b = ap NoAnswer (a.2.1 ∙ ap (λ (k : ℕ). place tasks.number (k + 1) 0) (one_line (IsAnswered tasks answer) (count_of tasks) a.2.0 b.2.0 a.2.2 b.2.2) ∙ sym b.2.1)
    go h b = absurd b
  one_pair_fault f g a b = absurd a

  no_row_fault : (f : Fault) → EachLine (HasRow tasks) (count_of tasks) → RowFails tasks f → ⊥
  no_row_fault f each m = none_first (HasRow tasks) (count_of tasks) m.0 each m.2

  one_row_fault : (f g : Fault) → RowFails tasks f → RowFails tasks g → f ≡ g
  one_row_fault f g a b = a.1 ∙ ap (λ (k : ℕ). BadRow (place tasks.number (k + 1) 0)) (one_line (HasRow tasks) (count_of tasks) a.0 b.0 a.2 b.2) ∙ sym b.1

  one_estimate_fault : (f g : Fault) → EstimateFails tasks answer f → EstimateFails tasks answer g → f ≡ g
  one_estimate_fault f g a b =
      a.1 ∙ ap (λ (k : ℕ). BadOrder (place answer.number (k + 1) (left_of answer Estimate + 1))) (one_line (HasEstimate tasks answer) (count_of answer) a.0 b.0 a.2 b.2) ∙ sym b.1

  -- sheets that miss no question have no fault
  pub no_sheets_fault : (f : Fault) → HasTest board → IsPaired tasks answer → EachLine (HasRow tasks) (count_of tasks) → EachLine (HasEstimate tasks answer) (count_of answer) → SheetsFail board tasks answer f → ⊥
  no_sheets_fault f has paired rows lie (by_test m) = no_test_fault f has m
  no_sheets_fault f has paired rows lie (by_pair h m) = no_pair_fault f paired m
  no_sheets_fault f has paired rows lie (by_row h p m) = no_row_fault f rows m
  no_sheets_fault f has paired rows lie (by_estimate h p r m) = none_first (HasEstimate tasks answer) (count_of answer) m.0 lie m.2

  pub one_sheets_fault : (f g : Fault) → SheetsFail board tasks answer f → SheetsFail board tasks answer g → f ≡ g
  one_sheets_fault f g (by_test a) (by_test b) = one_test_fault f g a b
  one_sheets_fault f g (by_test a) (by_pair h b) = absurd (no_test_fault f h a)
  one_sheets_fault f g (by_test a) (by_row h p b) = absurd (no_test_fault f h a)
  one_sheets_fault f g (by_test a) (by_estimate h p r b) = absurd (no_test_fault f h a)
  one_sheets_fault f g (by_pair h a) (by_test b) = absurd (no_test_fault g h b)
  one_sheets_fault f g (by_pair h a) (by_pair k b) = one_pair_fault f g a b
  one_sheets_fault f g (by_pair h a) (by_row k p b) = absurd (no_pair_fault f p a)
  one_sheets_fault f g (by_pair h a) (by_estimate k p r b) = absurd (no_pair_fault f p a)
  one_sheets_fault f g (by_row h p a) (by_test b) = absurd (no_test_fault g h b)
  one_sheets_fault f g (by_row h p a) (by_pair k b) = absurd (no_pair_fault g p b)
  one_sheets_fault f g (by_row h p a) (by_row k q b) = one_row_fault f g a b
  one_sheets_fault f g (by_row h p a) (by_estimate k q r b) = absurd (no_row_fault f r a)
  one_sheets_fault f g (by_estimate h p r a) (by_test b) = absurd (no_test_fault g h b)
  one_sheets_fault f g (by_estimate h p r a) (by_pair k b) = absurd (no_pair_fault g p b)
  one_sheets_fault f g (by_estimate h p r a) (by_row k q b) = absurd (no_row_fault g r b)
  one_sheets_fault f g (by_estimate h p r a) (by_estimate k q s b) = one_estimate_fault f g a b
