-- Rows, tables of rows, and what each call of a table does.
use Rattle.std.specs.Prelude.{◌≡◌, ℕ, ◌-◌, ◌<◌, ◌≤◌, Bool, ◌&&◌, nat_le, List, [], ◌∷◌, ◌++◌, length, take, Ok, Err, Result, MatchResult, slice_set}
use Rattle.std.proofs.Common.{lit≤}
use Rattle.std.specs.Borrow.{RattleType}
use Rattle.std.specs.List.{remove}
use Rattle.table.specs.contracts.rows.Rows as rows
use Rattle.table.specs.declared.numbers.Numbers.{Numbers}
use Rattle.table.specs.declared.row.Row.{Row}
use Rattle.table.specs.declared.rows.Rows.{Rows}
use Rattle.table.specs.declared.fault.Fault.{Fault}
use Rattle.table.specs.declared.fault.Fault.TheVariants.{Full, NoRow, BadRow}
use Rattle.table.specs.Asking.{Asks, Reply, Refuses, accepted}
use Rattle.table.specs.Faults.{nowhere}
use Rattle.table.specs.Places.{nth, put}

-- a table of tasks
abbrev pub Table : Type 0
Table = Rows Row

-- numbers make a row: 1 ≤ C ≤ D ≤ T ≤ 1,000,000
abbrev pub IsRow : Numbers → Type 0
IsRow numbers =
    (1 ≤ numbers.wcet) × (numbers.wcet ≤ numbers.deadline)
    × (numbers.deadline ≤ numbers.period) × (numbers.period ≤ 1000000)

-- a row is of these numbers
abbrev pub Of : Row → Numbers → Type 0
Of row numbers =
    (row.wcet ≡ numbers.wcet) × (row.period ≡ numbers.period) × (row.deadline ≡ numbers.deadline)

-- from low to high lies between a row's C and its D, computed
abbrev pub spans : Row → ℕ → ℕ → Bool
spans row low high = nat_le row.wcet low && (nat_le low high && nat_le high row.deadline)

-- what stands where there is no row
abbrev pub filler : Row
filler = record { wcet = 1; period = 1; deadline = 1; ok = (lit≤ tt, lit≤ tt, lit≤ tt, lit≤ tt) }

-- row k of a list of rows
abbrev pub row : List Row → ℕ → Row
row rows k = nth rows k filler

-- making a row of numbers: the row of just these, or a refusal
abbrev pub MadeRow : Numbers → Result Row Fault → Type 0
MadeRow numbers made =
    Asks (IsRow numbers) (made ≡ Err (BadRow nowhere))
    ((row : Row) × (made ≡ Ok row) × Of row numbers)

-- a call makes a row of numbers: where that is refused so is the call, and otherwise it goes on
-- with the row
abbrev pub MakesRow : Numbers → (Fault → Type 0) → (Row → Type 0) → Type 0
MakesRow numbers refused on =
    (made : Result Row Fault) × MadeRow numbers made × MatchResult made on refused

-- a table as the logic holds it, for the contract of the loan of a row
abbrev pub table_type : RattleType → RattleType
table_type x = rows.the_row x

-- the rows of a table, row 1 first
abbrev pub view : {X : Type 0} → Rows X → List X
view table = take table.len table.rows

-- the table with another row at a place, counted from 0
abbrev pub with_row : {X : Type 0} → Rows X → ℕ → X → Rows X
with_row table place row =
    record { rows = slice_set table.rows place row; len = table.len; ok = table.ok }

-- a number names a row: 1 the first, and 0 none
abbrev pub Names : List Row → ℕ → Type 0
Names rows k = (1 ≤ k) × (k ≤ length rows)

-- add: the row of these numbers stands after the last one
abbrev pub Adds : Table → Numbers → Reply → Table → Type 0
Adds before numbers reply after =
    Asks (length (view before) < 32) (Refuses Full before reply after)
    (MakesRow numbers (λ fault. Refuses fault before reply after)
    (λ row. (reply ≡ accepted) × (view after ≡ view before ++ row ∷ [])))

-- alter: row k is of these numbers, and every other row is as it stood
abbrev pub Alters : Table → ℕ → Numbers → Reply → Table → Type 0
Alters before k numbers reply after =
    Asks (Names (view before) k) (Refuses NoRow before reply after)
    (MakesRow numbers (λ fault. Refuses fault before reply after)
    (λ row. (reply ≡ accepted) × (view after ≡ put (view before) k row)))

-- remove: row k is taken out, and later rows move up by one
abbrev pub Removes : Table → ℕ → Reply → Table → Type 0
Removes before k reply after =
    Asks (Names (view before) k) (Refuses NoRow before reply after)
    ((reply ≡ accepted) × (view after ≡ remove (view before) (k - 1)))

-- reading row k gives it, or a refusal where there is none
abbrev pub Reads : Table → ℕ → Result Row Fault → Type 0
Reads table k read =
    Asks (Names (view table) k) (read ≡ Err NoRow)
    ((other : Row) → read ≡ Ok (nth (view table) k other))
