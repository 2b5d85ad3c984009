-- Two answers that say the same are the same answer: so each promise `told answer ≡ definition` allows one outcome.
use mathlib.Core.Path.{◌≡◌, refl, sym, ◌∙◌, ap}
use Rattle.std.specs.Prelude.{Some, None, Ok, Err}
use Rattle.verdict.specs.Verdict.{Verdict}
use Rattle.verdict.proofs.Unique.{verdict_of, verdict_back}
use Rattle.search.specs.Search.{Outcome, refusing, hit, none, Found, told_found}

-- a verdict as a search hands it on
handed_on : Verdict → Found
handed_on (Ok x) = Ok None
handed_on (Err r) = Err r

found_of : Outcome → Found
found_of (refusing k p) = handed_on (verdict_of k p)
found_of (hit k b n) = Ok (Some (record { number = k; start = b; size = n }))
found_of none = Ok None

found_back : (f : Found) → found_of (told_found f) ≡ f
unfolding found_of handed_on
found_back (Ok (Some h)) = refl
found_back (Ok None) = refl
found_back (Err r) = ap handed_on (verdict_back (Err r))

pub told_found_once : (f g : Found) → told_found f ≡ told_found g → f ≡ g
told_found_once f g e = sym (found_back f) ∙ ap found_of e ∙ found_back g
