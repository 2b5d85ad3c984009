-- Demand 2, for whoever keeps the promises of `to_section` and `to_sheet`.
use Prim.Native.Nat.{ℕ, ◌≤◌}
use mathlib.Core.Path.{◌≡◌, sym, ap, ◌∙◌, subst}
use mathlib.Core.List.{List}
use native.Mathlib.Omega.{arith}
use lib.ListN.{length, take, drop, take-append-drop}
use Rattle.std.specs.Prelude.{Ok}
use Rattle.forms.proofs.Lawful.{bytes_front}
use Rattle.section.specs.Reading.{judged}
use Rattle.contents.specs.Ones.{ReservedWereOnes}
use Rattle.turn.specs.Turn.{Outcome, gives, to_section, to_sheet, wrote, answer, roomAfter}
use Rattle.turn.proofs.WholeLaws.{take_put}
use Rattle.round_trips.specs.Demand2.{SheetAndBack, SectionAndBack, WrittenAsOnes, BackOnlyIf, AnySectionAndBack}
use Rattle.round_trips.proofs.RoundTrips as trips
use Rattle.round_trips.proofs.Rooms.{section_given, sheet_given}
use Rattle.round_trips.proofs.Unique.{section_once, sheet_once}

-- bytes that are given stand at the front of the room
front : (p p' s : List ℕ) (x : Outcome) → x ≡ gives s → length s ≤ length p → p' ≡ roomAfter p x
    → take (length s) p' ≡ s
front p p' s x g h e = ap (take (length s)) (e ∙ ap (roomAfter p) g) ∙ take_put p s h

pub sheet_and_back : SheetAndBack
sheet_and_back s o o' p p' n r w a big b =
    let g = section_given s o o' n w a in
    let t = g.in_room.first in
    let y = trips.sheet_and_back (length o) (length p) s g.bytes w big g.is in
    let z : to_sheet (length p) (take n o') ≡ gives s = ap (to_sheet (length p)) t ∙ y.1 in
    let small = trips.accepted_sheet_at_most (length o) s g.bytes w g.is in (
      ap judged t ∙ y.0,
      sheet_once r (Ok (length s)) (b.0 ∙ ap answer z),
      front p p' s _ z (omega arith) b.1,
    )

pub section_and_back : SectionAndBack
section_and_back s o o' p p' n r w u a big b =
    let g = sheet_given s o o' n w a in
    let y = trips.section_and_back (length p) (length o) s g.bytes w big u g.is in
    let z : to_section (length p) (take n o') ≡ gives s = ap (to_section (length p)) g.in_room.first ∙ y in
    let small = trips.accepted_section_at_most (length o) s g.bytes w g.is in (
      section_once r (Ok (length s)) (b.0 ∙ ap answer z),
      front p p' s _ z (omega arith) b.1,
    )

pub written_as_ones : WrittenAsOnes
written_as_ones s o o' n w a =
    let g = section_given s o o' n w a in
    subst ReservedWereOnes (sym g.in_room.first) (trips.made_ones (length o) s g.bytes w g.is)

pub back_only_if : BackOnlyIf
back_only_if s o o' p p' n m w v a b e =
    subst ReservedWereOnes e
    (written_as_ones (take n o') p p' m (bytes_front (take n o') (drop n o') (sym (take-append-drop n o')) v) b)

pub any_section_and_back : AnySectionAndBack
any_section_and_back s o o' p p' n r w a big b =
    let g = sheet_given s o o' n w a in
    let y = trips.any_section_and_back (length p) (length o) s g.bytes w big g.is in
    section_once r (Ok (length s))
    (b.0 ∙ ap answer (ap (to_section (length p)) g.in_room.first ∙ y.1) ∙ ap wrote y.2)
