use Rattle.std.proofs.Common.{true, sym, subst}
use Rattle.bounds.specs.Questions.{own}
use Rattle.bounds.specs.Posing.{question_of}
use Rattle.bounds.specs.Climbs.{loads, Uncapped}
use Rattle.bounds.proofs.UncappedLoads.{uncapped_all, uncapped_limited, mixed_past, works_past}
use Rattle.bounds.proofs.window.Window.uncapped_loads.Goals as goal

pub returns-in_default : goal.returns-in_default
returns-in_default c =
    let posed = c.args.self.now.posed in
    let q = question_of posed in
    let l = c.args.self.now.length in
    record {
      uncapped = subst (λ limit. Uncapped (loads limit q) (own q) l c.works-carried.result) (sym c.in_default.is) (uncapped_all q posed.sound l c.works-carried.result c.works-carried.ensures);
      past = works_past q posed.sound l true c.works-carried.result c.works-carried.ensures;
    }

pub returns : goal.returns
returns c =
    let posed = c.args.self.now.posed in
    let q = question_of posed in
    let l = c.args.self.now.length in
    record {
      uncapped = subst (λ limit. Uncapped (loads limit q) (own q) l c.mixed.result) (sym c.in-Some.is)
          (uncapped_limited q posed.sound c.in-Some.limit l c.works-carried.result c.works-plain.result c.extras_of-extras.result c.picks-chosen.result c.mixed.result
          c.works-carried.ensures c.works-plain.ensures c.cap.result c.cap.ensures c.extras_of-extras.ensures c.picks-chosen.ensures c.mixed.ensures);
      past = mixed_past q posed.sound c.in-Some.limit l c.works-carried.result c.works-plain.result c.extras_of-extras.result c.picks-chosen.result c.mixed.result
          c.works-carried.ensures c.works-plain.ensures c.cap.result c.cap.ensures c.extras_of-extras.ensures c.picks-chosen.ensures c.mixed.ensures;
    }
