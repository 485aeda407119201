-- A test by name keeps the laws, since each of the tests does.
use Rattle.bounds.specs.declared.named.NamedTest.{NamedTest}
use Rattle.bounds.specs.declared.named.NamedTest.TheVariants.{ByDeadline, ByResponse, ByLimited}
use Rattle.bounds.specs.Questions.{Laws}
use Rattle.bounds.specs.Named.{named_answer}
use Rattle.bounds.specs.DaLaws.{da_laws}
use Rattle.bounds.specs.ResponseLoads.{rta_laws, lc_laws}

pub named_laws : (t : NamedTest) → Laws (named_answer t)
named_laws (ByDeadline t) = da_laws t.processors
named_laws (ByResponse t) = rta_laws t.processors
named_laws (ByLimited t) = lc_laws t.processors
