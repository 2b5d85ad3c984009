-- Of a section that the judge refuses nothing is handed out.
use Prim.Native.Nat.{ℕ}
use mathlib.Core.Path.{◌≡◌, ◌∙◌}
use mathlib.Core.List.{List}
use Rattle.verdict.specs.Verdict.{refused}
use Rattle.section.specs.Reading.{judged}
use Rattle.section.specs.Faults.{First}
use Rattle.section.proofs.Exactly.{first_judged}
use Rattle.parts.specs.Opening.{Answer, Opens}
use Rattle.parts.specs.Handed.{Nothing}

pub refused_nothing : (s : List ℕ) (k q : ℕ) (o : Answer) → First s k q → Opens s o → Nothing k q o
refused_nothing s k q o f x =
    let e : judged s ≡ refused k q = first_judged s f in
    record { says = x.verdict ∙ e; utc_time_lem = x.utc_time_lem ∙ rw e; top = x.top ∙ rw e; entries = x.entries ∙ rw e }
