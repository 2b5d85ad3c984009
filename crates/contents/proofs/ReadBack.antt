-- Accepted sections are the sections of contents, which are read from them again.
use Prim.Native.Nat.{ℕ}
use mathlib.Core.Path.{◌≡◌, sym, ap, ◌∙◌}
use mathlib.Core.List.{List}
use Rattle.wire.specs.Bytes.{Bytes}
use Rattle.wire.specs.Reading.{value}
use Rattle.verdict.specs.Verdict.{accepted}
use Rattle.section.specs.Reading.{judged}
use Rattle.sheet.specs.Content.{Content}
use Rattle.sheet.specs.Section.{section_of, content_of}
use Rattle.contents.specs.Holds.{Holds, SectionsOfContents}
use Rattle.contents.proofs.SectionLaws.{content_again}
use Rattle.contents.proofs.Accepted.{made_accepted}
use Rattle.contents.proofs.Contained.{contained}

pub sections_of_contents : SectionsOfContents
sections_of_contents s w = (contained s w, λ x. ap judged (sym x.2) ∙ made_accepted x.0 x.1)

-- the content of an accepted section
pub record OfSection (s : List ℕ) : Type 0 where
  pub content : Content
  pub holds : Holds content
  pub is : section_of content ≡ s
  pub reads : content_of s ≡ value content

pub of_accepted : (s : List ℕ) → Bytes s → judged s ≡ accepted → OfSection s
of_accepted s w e =
    let x = contained s w e in
    record {
      content = x.0;
      holds = x.1;
      is = x.2;
      reads = ap content_of (sym x.2) ∙ content_again x.0 x.1;
    }
