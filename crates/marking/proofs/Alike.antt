-- Two readings of one text agree, and so do the questions that they are asked.
use Rattle.std.proofs.Common.{◌≡◌, ℕ, ◌+◌, ◌<◌, ◌≤◌, List, [], Ok, length, drop, sym, ap, subst, ◌∙◌}
use Rattle.std.specs.List.{position_or_len}
use Rattle.std.specs.Str.{bytes_eq}
use Rattle.table.specs.declared.fault.Fault.{Fault}
use Rattle.table.specs.declared.fault.Fault.TheVariants.{RepeatedTask, BadAnswer, NoAnswer, BadRow, BadTest, BadOrder}
use Rattle.table.specs.Places.{nth}
use Rattle.table.specs.Rows.{IsRow}
use Rattle.bounds.specs.Made.{Allowed}
use Rattle.sheets.specs.declared.form.Column.{Column}
use Rattle.sheets.specs.declared.form.Column.TheVariants.{Processors, Overhead, Test, Task, Wcet, Period, Deadline, Estimate}
use Rattle.sheets.specs.declared.form.Form.{Form}
use Rattle.sheets.specs.declared.sheet.Sheet.{Sheet}
use Rattle.sheets.specs.Fields.{value}
use Rattle.sheets.specs.Forms.{name_of, place}
use Rattle.sheets.specs.Sheets.{columns_in, values_of, left_of, field_of, ReadsText}
use Rattle.sheets.specs.Pairs.{count_of, task_of, IsNewName, HasTaskAt, HasTask, Answers, IsAnswered, EachLine, FirstLine, PairFails}
use Rattle.sheets.proofs.Columns.{same_columns}
use Rattle.sheets.proofs.Cuts.{one_text}
use Rattle.bounds.specs.Named.{IsTestName}
use Rattle.marking.specs.Questions.{number_under, Suits, HasTest, TestFails, HasRow, RowFails, HasEstimate, EstimateFails, IsPaired, SheetsFail, by_test, by_pair, by_row, by_estimate}

-- Two sheets have one number, the same columns and the same values.
pub record Alike (s t : Sheet) : Type 0 where
  pub number : s.number ≡ t.number
  pub columns : columns_in s ≡ columns_in t
  pub values : values_of s ≡ values_of t

pub back : (s t : Sheet) → Alike s t → Alike t s
back s t like = record { number = sym like.number; columns = sym like.columns; values = sym like.values }

-- a text is read in one way
pub read_alike : (form : Form) (number : ℕ) (text : List ℕ) (s t : Sheet) → ReadsText form number text (Ok s) → ReadsText form number text (Ok t) → Alike s t
read_alike form number text s t a b =
    let lines = one_text text a.0 b.0 a.2.cut b.2.cut in
    let columns = same_columns a.1 b.1 (sym a.2.heads.named ∙ ap (λ (ls : List (List (List ℕ))). nth ls 1 []) lines ∙ b.2.heads.named) in
    record { number = a.3.1 ∙ sym b.3.1; columns = a.3.2 ∙ columns ∙ sym b.3.2; values = a.3.3 ∙ ap (drop 1) lines ∙ sym b.3.3 }

-- questions that say the same, of as many lines
module _ (p q : ℕ → Type 0) (to : (k : ℕ) → p k → q k) (n m : ℕ) (many : n ≡ m) where
  each_again : EachLine p n → EachLine q m
  each_again each k low high = to k (each k low (subst (λ x. k ≤ x) (sym many) high))

  first_again : ((k : ℕ) → q k → p k) → (k : ℕ) → FirstLine p n k → FirstLine q m k
  first_again from k first = (first.0, subst (λ x. k ≤ x) many first.1, λ holds. first.2 (from k holds), λ i low high. to i (first.3 i low high))

module _ (s t : Sheet) (like : Alike s t) where
  left : (c : Column) → left_of s c ≡ left_of t c
  left c = ap (position_or_len (λ d. bytes_eq (name_of d) (name_of c))) like.columns

  pub count : count_of s ≡ count_of t
  count = ap length like.values

  pub field : (k : ℕ) (c : Column) → field_of s k c ≡ field_of t k c
  field k c = ap (λ (v : List (List (List ℕ))). nth (nth v k []) (left_of s c + 1) []) like.values ∙ ap (λ l. nth (nth (values_of t) k []) (l + 1) []) (left c)

  pub number : (k : ℕ) (c : Column) → number_under s k c ≡ number_under t k c
  number k c = ap value (field k c)

  at : (line j : ℕ) → place s.number line j ≡ place t.number line j
  at line j = ap (λ n. place n line j) like.number

  under : (line : ℕ) (c : Column) → place s.number line (left_of s c + 1) ≡ place t.number line (left_of t c + 1)
  under line c = at line (left_of s c + 1) ∙ ap (λ l. place t.number line (l + 1)) (left c)

  suits : (c : Column) → Suits s c → Suits t c
  suits Processors h = subst Allowed (number 1 Processors) h
  suits Test h = subst IsTestName (field 1 Test) h
  suits Overhead h = tt
  suits Task h = tt
  suits Wcet h = tt
  suits Period h = tt
  suits Deadline h = tt
  suits Estimate h = tt

  is_new : (k : ℕ) → IsNewName s k → IsNewName t k
  is_new k new i low high same = new i low high (field i Task ∙ same ∙ sym (field k Task))

  has_task_at : (name : List ℕ) (k : ℕ) → HasTaskAt s name k → HasTaskAt t name k
  has_task_at name k has = (has.0, subst (λ n. k ≤ n) count has.1, sym (field k Task) ∙ has.2)

  has_row : (k : ℕ) → HasRow s k → HasRow t k
  has_row k row = subst IsRow (λ i. record { wcet = number k Wcet i; period = number k Period i; deadline = number k Deadline i }) row

-- a name of one sheet stands on another
has_task : (s t u v : Sheet) → Alike s t → Alike u v → (k : ℕ) → HasTask s (task_of u k) → HasTask t (task_of v k)
has_task s t u v on of k has = (has.0, subst (λ name. HasTaskAt t name has.0) (field u v of k Task) (has_task_at s t on (task_of u k) has.0 has.1))

has_test : (s t : Sheet) → Alike s t → HasTest s → HasTest t
has_test s t like has c = suits s t like c (has c)

test_fails : (s t : Sheet) → Alike s t → (f : Fault) → TestFails s f → TestFails t f
test_fails s t like f m = (
  m.0,
  m.1 ∙ ap BadTest (under s t like 2 m.0),
  λ holds. m.2 (suits t s (back s t like) m.0 holds),
  λ d l. suits s t like d (m.3 d (subst (λ n. left_of s d < n) (sym (left s t like m.0)) (subst (λ n. n < left_of t m.0) (sym (left s t like d)) l))),
)

-- a tasks sheet and an answer sheet, each read twice
module _ (s t : Sheet) (tasks : Alike s t) (u v : Sheet) (answer : Alike u v) where
  answers : (k : ℕ) → Answers s u k → Answers t v k
  answers k h = (has_task s t u v tasks answer k h.0, is_new u v answer k h.1)

  has_estimate : (k : ℕ) → HasEstimate s u k → HasEstimate t v k
  has_estimate k lies row there =
      let old = lies row (has_task_at t s (back s t tasks) (task_of u k) row (subst (λ name. HasTaskAt t name row) (sym (field u v answer k Task)) there)) in
      subst (λ n. (number_under t row Wcet ≤ n) × (n ≤ number_under t row Deadline)) (number u v answer k Estimate)
      (subst (λ (f : Column → ℕ). (f Wcet ≤ number_under u k Estimate) × (number_under u k Estimate ≤ f Deadline)) (λ i c. number s t tasks row c i) old)

  each_new : EachLine (IsNewName s) (count_of s) → EachLine (IsNewName t) (count_of t)
  each_new each = each_again (IsNewName s) (IsNewName t) (is_new s t tasks) (count_of s) (count_of t) (count s t tasks) each

  each_answers : EachLine (Answers s u) (count_of u) → EachLine (Answers t v) (count_of v)
  each_answers each = each_again (Answers s u) (Answers t v) answers (count_of u) (count_of v) (count u v answer) each

  is_paired : IsPaired s u → IsPaired t v
  is_paired p = (each_new p.0, each_answers p.1, each_again (IsAnswered s u) (IsAnswered t v) (has_task u v s t answer tasks) (count_of s) (count_of t) (count s t tasks) p.2)

  each_row : EachLine (HasRow s) (count_of s) → EachLine (HasRow t) (count_of t)
  each_row each = each_again (HasRow s) (HasRow t) (has_row s t tasks) (count_of s) (count_of t) (count s t tasks) each

-- the faults of a tasks sheet and an answer sheet
module _ (s t : Sheet) (tasks : Alike s t) (u v : Sheet) (answer : Alike u v) where
  tasks_again : Alike t s
  tasks_again = back s t tasks

  answer_again : Alike v u
  answer_again = back u v answer

  pair_fails : (f : Fault) → PairFails s u f → PairFails t v f
  pair_fails (RepeatedTask p) m = (
    m.0,
    m.1 ∙ under s t tasks (m.0 + 1) Task,
    first_again (IsNewName s) (IsNewName t) (is_new s t tasks) (count_of s) (count_of t) (count s t tasks) (is_new t s tasks_again) m.0 m.2,
  )
  pair_fails (BadAnswer p) m = (
    each_new s t tasks u v answer m.0,
    (
      m.1.0,
      m.1.1 ∙ under u v answer (m.1.0 + 1) Task,
      first_again (Answers s u) (Answers t v) (answers s t tasks u v answer) (count_of u) (count_of v) (count u v answer) (answers t s tasks_again v u answer_again) m.1.0 m.1.2,
    ),
  )
  pair_fails (NoAnswer p) m = (
    each_new s t tasks u v answer m.0,
    each_answers s t tasks u v answer m.1,
    (
      m.2.0,
      m.2.1 ∙ at s t tasks (m.2.0 + 1) 0,
      first_again (IsAnswered s u) (IsAnswered t v) (has_task u v s t answer tasks) (count_of s) (count_of t) (count s t tasks) (has_task v u t s answer_again tasks_again) m.2.0 m.2.2,
    ),
  )
  pair_fails f m = absurd m

  row_fails : (f : Fault) → RowFails s f → RowFails t f
  row_fails f m = (
    m.0,
    m.1 ∙ ap BadRow (at s t tasks (m.0 + 1) 0),
    first_again (HasRow s) (HasRow t) (has_row s t tasks) (count_of s) (count_of t) (count s t tasks) (has_row t s tasks_again) m.0 m.2,
  )

  estimate_fails : (f : Fault) → EstimateFails s u f → EstimateFails t v f
  estimate_fails f m = (
    m.0,
    m.1 ∙ ap BadOrder (under u v answer (m.0 + 1) Estimate),
    first_again (HasEstimate s u) (HasEstimate t v) (has_estimate s t tasks u v answer) (count_of u) (count_of v) (count u v answer) (has_estimate t s tasks_again v u answer_again) m.0 m.2,
  )

-- three sheets, each read twice, have the same faults
pub sheets_fail : (b c : Sheet) → Alike b c → (s t : Sheet) → Alike s t → (u v : Sheet) → Alike u v → (f : Fault) → SheetsFail b s u f → SheetsFail c t v f
sheets_fail b c board s t tasks u v answer f (by_test m) = by_test (test_fails b c board f m)
sheets_fail b c board s t tasks u v answer f (by_pair has m) = by_pair (has_test b c board has) (pair_fails s t tasks u v answer f m)
sheets_fail b c board s t tasks u v answer f (by_row has paired m) = by_row (has_test b c board has) (is_paired s t tasks u v answer paired) (row_fails s t tasks u v answer f m)
sheets_fail b c board s t tasks u v answer f (by_estimate has paired rows m) =
    by_estimate (has_test b c board has) (is_paired s t tasks u v answer paired) (each_row s t tasks u v answer rows) (estimate_fails s t tasks u v answer f m)
