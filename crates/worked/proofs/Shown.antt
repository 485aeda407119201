-- The worked examples hold: each is computed.
use Rattle.std.proofs.Common.{refl}
use Rattle.table.specs.Places.{nth, put}
use Rattle.bounds.specs.Questions.{all_to}
use Rattle.bounds.specs.Loads.{sum_to}
use Rattle.bounds.specs.Responses.{least_from, greatest}
use Rattle.worked.proofs.Decisions.{c_closed, c_open}
use Rattle.worked.proofs.Searched.{found_after_split, none_after_kept, found_at_once}
use Rattle.worked.specs.Examples.{Work, DeadlineAnalysis, ResponseAnalysis, LimitedAnalysis, Overheads, WorkedExamples}

work : Work
work = (refl, refl, refl, refl)

deadline_analysis : DeadlineAnalysis
unfolding nth put all_to sum_to
deadline_analysis = (refl, refl)

response_analysis : ResponseAnalysis
unfolding nth put all_to sum_to least_from
response_analysis = (refl, refl, refl)

limited_analysis : LimitedAnalysis
unfolding nth put all_to sum_to least_from greatest
limited_analysis = refl

overheads : Overheads
unfolding nth put all_to sum_to least_from
overheads = (refl, refl, refl, refl)

pub shown : WorkedExamples
shown = (work, deadline_analysis, response_analysis, limited_analysis, overheads, (c_closed, c_open), found_after_split, none_after_kept, found_at_once)
