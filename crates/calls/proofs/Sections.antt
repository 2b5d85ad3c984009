-- The walk over the out room hands out the sections that the collector accepted.
use Prim.Native.Nat.{ℕ}
use mathlib.Core.Path.{◌≡◌, refl, sym, ap, ◌∙◌, subst}
use mathlib.Core.List.{List, [], ◌∷◌, flatten}
use lib.ListN.{length, take, drop}
use lib.Seq.{take-append_seam}
use Rattle.wire.specs.Each.{Each}
use Rattle.wire.specs.Sections.{WholeSection}
use Rattle.copy.specs.Laid.{over}
use Rattle.packet.specs.Ruling.{Carried, Ruling, refuses, repeated, takes, ruling}
use Rattle.packet.specs.Ruling as Ruled
use Rattle.collector.specs.Rules.{Story, accepted, plain, holding, story_after}
use Rattle.collector.specs.Judged.{by_judge, delivered_of}
use Rattle.collector.specs.Refusals.{before_of, cannot_stand, too_small}
use Rattle.collector.specs.Collected.{outcome_of}
use Rattle.collector.specs.declared.Record as of
use Rattle.collector.proofs.StoryLaws.{sections_each}
use Rattle.history.specs.Run.{cut}
use Rattle.history.proofs.Agrees.{cut_whole, whole_taken}
use Rattle.parts.specs.Parts.{part}
use Rattle.parts.specs.Room as room
use Rattle.parts.specs.Room.{AllWhole, HandsSections}
use Rattle.parts.proofs.Cuts.{sections_handed}
use Rattle.cabinet.specs.Collect.{record_in, Outcome, outcome_says, collecting}
use Rattle.cabinet.specs.declared.collect.Record.{Record}
use Rattle.calls.specs.Collects.{Promised}
use Rattle.calls.specs.Sections.{HandsOutAll}

all_whole : (secs : List (List ℕ)) → Each WholeSection secs → AllWhole secs
all_whole [] x = room.AllWhole.none
all_whole (s ∷ secs) x =
    room.AllWhole.more (record { header = x.0.header; size = x.0.exact }) (all_whole secs x.1)

abbrev Hands : Outcome → Type 0
Hands o =
    HandsSections o.out (part 0 o.answer.size) (cut o.answer.sections (take o.answer.size o.out))

-- nothing is handed out
none_out : (out : List ℕ) → HandsSections out (part 0 0) []
unfolding flatten
none_out out =
    sections_handed (part 0 0) [] room.AllWhole.none
    (record { stands = record { front = []; back = out; whole = refl; place = refl }; sized = refl })

-- sections at the front of the room
front_out : (secs : List (List ℕ)) (out : List ℕ) → Each WholeSection secs
    → HandsSections (over (flatten secs) out) (part 0 (length (flatten secs)))
    (cut (length secs) (take (length (flatten secs)) (over (flatten secs) out)))
front_out secs out whole =
    let front : take (length (flatten secs)) (over (flatten secs) out) ≡ flatten secs =
    take-append_seam (flatten secs) (drop (length (flatten secs)) out) in
    let same : cut (length secs) (take (length (flatten secs)) (over (flatten secs) out)) ≡ secs =
    ap (cut (length secs)) front ∙ cut_whole secs whole in
    subst (HandsSections (over (flatten secs) out) (part 0 (length (flatten secs)))) (sym same)
    (sections_handed (part 0 (length (flatten secs))) secs (all_whole secs whole)
    (record {
      stands = record { front = []; back = drop (length (flatten secs)) out; whole = refl; place = refl };
      sized = refl;
    }))

-- the story of a packet that is taken
abbrev story_of : of.Record → List ℕ → Carried ℕ → Story ℕ
story_of r hold q = story_after by_judge plain (before_of r).last (holding (take r.in_hand hold)) q

by_ruling : (before : Record) (r : of.Record) (hold out : List ℕ) (z : Ruling)
    → Hands (outcome_says before (outcome_of r hold out z))
by_ruling before r hold out (refuses n) = none_out out
by_ruling before r hold out repeated = none_out out
by_ruling before r hold out (Ruled.bare splice) = none_out out
by_ruling before r hold out (takes q) =
    front_out (delivered_of (story_of r hold q)) out
    (sections_each by_judge plain accepted WholeSection (story_of r hold q).sections
    (whole_taken by_judge (before_of r).last (take r.in_hand hold) q))

pub hands_out_all : HandsOutAll Promised
unfolding collecting
hands_out_all r hold out packet o is =
    rw is
    (by_ruling r (record_in r) hold out
    (ruling (too_small (length hold) (length out)) (cannot_stand (record_in r) hold) r.pid (before_of (record_in r))
    packet))
