-- The states of a study, and its counts.
use Rattle.std.specs.Prelude.{◌≡◌, ℕ, ◌+◌, ◌≤◌, Some, None, Option}
use Rattle.study.specs.declared.finding.Finding.{Finding}
use Rattle.study.specs.declared.state.State.{State}
use Rattle.study.specs.declared.state.State.TheVariants as state

-- one for a verdict: found, none or stopped
abbrev pub verdicts : State → ℕ
verdicts state.Draft = 0
verdicts (state.Running room) = 0
verdicts (state.Found finding) = 1
verdicts state.None = 1
verdicts state.Stopped = 1

-- what was found, present exactly while the state is found
abbrev pub finding_in : State → Option Finding
finding_in state.Draft = None
finding_in (state.Running room) = None
finding_in (state.Found finding) = Some finding
finding_in state.None = None
finding_in state.Stopped = None

-- How many slots of each list may be counted: none in a draft, those that the list has while a
-- search runs, and up to 4,096 once there is a verdict.
abbrev pub ledger_room : State → ℕ
ledger_room state.Draft = 0
ledger_room (state.Running room) = room.ledger
ledger_room (state.Found finding) = 4096
ledger_room state.None = 4096
ledger_room state.Stopped = 4096

abbrev pub pending_room : State → ℕ
pending_room state.Draft = 0
pending_room (state.Running room) = room.pending
pending_room (state.Found finding) = 4096
pending_room state.None = 4096
pending_room state.Stopped = 4096

-- The counted slots are among these, and the steps are as many as the counted ledger slots, and one
-- more if there is a verdict.
abbrev pub Counted : State → ℕ → ℕ → ℕ → Type 0
Counted now ledger_count pending_count steps =
    (ledger_count ≤ ledger_room now) × (ledger_room now ≤ 4096)
    × (pending_count ≤ pending_room now) × (pending_room now ≤ 4096)
    × (steps ≡ ledger_count + verdicts now)
