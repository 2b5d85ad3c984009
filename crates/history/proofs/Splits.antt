-- A history goes its way whatever its whole sections come to: what it is with the judge is, once the parted ones are put
-- together again, what it is without.
use mathlib.Core.Path.{◌≡◌, refl, sym, ap, ◌∙◌, subst}
use mathlib.Core.Bool.{Bool, true, false}
use mathlib.Core.List.{List, [], ◌∷◌, ◌++◌, map, map-append}
use mathlib.Core.Option.{Option, some}
use Prim.Native.Nat.{ℕ, ◌+◌}
use native.Mathlib.Omega.{arith}
use lib.ListN.{length, take, drop}
use lib.Dec.{eqb}
use Rattle.std.specs.Prelude.{if◌then◌else◌}
use Rattle.packet.specs.Ruling.{joins, Carried}
use Rattle.verdict.specs.Verdict.{Said, refused}
use Rattle.verdict.specs.Verdict as Verdict
use Rattle.section.specs.Reading.{judged}
use Rattle.collector.specs.Rules.{Kind, pointer, accepted, rejected, broken, filler, skipped, by_kind, Fate, in-hand, done, Mark, Story, sameKind, same_fate, out_of_hand, bytes_of, count_of, hand_of, given, settled, broken_off, finished, Mode, begin, inside, outside, Rest, filling, skipping, breaking, kind_of, Next, Size, going, whole, too_long, size_of, begun, grown, resumed, joined, sections_of, byte_in, stretch, goesOn, sections_in, payload, story_after}
use Rattle.collector.specs.Judged.{kind_said, by_judge}
use Rattle.history.specs.History.{Byte, value_of, History, unbegun, numbered_in, history_after, history_from, history_of}
use Rattle.history.specs.Run.{Promised}
use Rattle.history.specs.Demand3.{taken_by_rule, story_by}
use Rattle.history.specs.Splits.{delivers, undivided_kind, undivided, undivided_mark, Splits, CollectThenJudge, CollectsThenJudges}
use Rattle.history.proofs.Demand3.{taken_by}

-- ---- a mark

-- a kind that is neither of the two is met as often
apart : (j : Kind) → sameKind j accepted ≡ sameKind j rejected → (k : Kind)
    → sameKind j (undivided_kind k) ≡ sameKind j k
apart j e = by_kind (λ k. sameKind j (undivided_kind k) ≡ sameKind j k) refl refl e refl refl refl

same_kind : (k j : Kind) → (j ≡ accepted → ⊥) → (j ≡ rejected → ⊥) → sameKind j (undivided_kind k) ≡ sameKind j k
same_kind k =
    by_kind (λ j. (j ≡ accepted → ⊥) → (j ≡ rejected → ⊥) → sameKind j (undivided_kind k) ≡ sameKind j k)
    (λ a r. apart pointer refl k) (λ a r. absurd (a refl)) (λ a r. absurd (r refl)) (λ a r. apart broken refl k)
    (λ a r. apart filler refl k) (λ a r. apart skipped refl k)

in_hand_too : (g : Fate) → same_fate in-hand (undivided g) ≡ same_fate in-hand g
in_hand_too in-hand = refl
in_hand_too (done k) = refl

same_fate_lem : (f : Fate) → (f ≡ done accepted → ⊥) → (f ≡ done rejected → ⊥) → (g : Fate)
    → same_fate f (undivided g) ≡ same_fate f g
same_fate_lem in-hand a r g = in_hand_too g
same_fate_lem (done j) a r in-hand = refl
same_fate_lem (done j) a r (done k) = same_kind k j (λ e. a (ap done e)) (λ e. r (ap done e))

out_of_hand_lem : (f g : Fate) → undivided (out_of_hand f g) ≡ out_of_hand (undivided f) (undivided g)
out_of_hand_lem f in-hand = refl
out_of_hand_lem f (done k) = refl

module _ {A : Type 0} where
  bytes_by_lem : (f : Fate) → ((g : Fate) → same_fate f (undivided g) ≡ same_fate f g) → (ms : List (Mark A))
      → bytes_of f (map undivided_mark ms) ≡ bytes_of f ms
  bytes_by_lem f e [] = refl
  bytes_by_lem f e (m ∷ ms) = λ i. if e m.fate i then m.byte ∷ bytes_by_lem f e ms i else bytes_by_lem f e ms i

  -- one byte more, of the two kinds and of the one
  one_more : (b : A) (x y z : List A) → length x + length y ≡ length z → (g : Fate)
      → length (if same_fate (done accepted) g then b ∷ x else x)
      + length (if same_fate (done rejected) g then b ∷ y else y)
      ≡ length (if same_fate (done accepted) (undivided g) then b ∷ z else z)
  one_more b x y z e in-hand = e
  one_more b x y z e (done k) =
      by_kind (λ j. length (if sameKind accepted j then b ∷ x else x) + length (if sameKind rejected j then b ∷ y else y)
      ≡ length (if sameKind accepted (undivided_kind j) then b ∷ z else z))
      e (omega arith) (omega arith) e e e k

  counts_split : (ms : List (Mark A)) → count_of (done accepted) ms + count_of (done rejected) ms
      ≡ count_of (done accepted) (map undivided_mark ms)
  counts_split [] = refl
  counts_split (m ∷ ms) =
      one_more m.byte (bytes_of (done accepted) ms) (bytes_of (done rejected) ms)
      (bytes_of (done accepted) (map undivided_mark ms)) (counts_split ms) m.fate

  settles : (f : Fate) (ms : List (Mark A))
      → map undivided_mark (settled f ms) ≡ settled (undivided f) (map undivided_mark ms)
  settles f [] = refl
  settles f (m ∷ ms) = λ i. record { byte = m.byte; fate = out_of_hand_lem f m.fate i } ∷ settles f ms i

  -- ---- a story

  abbrev undivided_story : Story A → Story A
  undivided_story s = record { marks = map undivided_mark s.marks; sections = s.sections }

  abbrev undivided_next : Next A → Next A
  undivided_next n = record { mode = n.mode; story = undivided_story n.story }

  same_hand : (s : Story A) → hand_of (undivided_story s) ≡ hand_of s
  same_hand s = bytes_by_lem in-hand in_hand_too s.marks

  gives : (f : Fate) (b : A) (s : Story A) → undivided_story (given f b s) ≡ given (undivided f) b (undivided_story s)
  gives f b s = λ i. record {
    marks = map-append undivided_mark s.marks (record { byte = b; fate = f } ∷ []) i;
    sections = s.sections;
  }

  breaks : (s : Story A) → undivided_story (broken_off s) ≡ broken_off (undivided_story s)
  breaks s = λ i. record { marks = settles (done broken) s.marks i; sections = s.sections }

  finishes : (k : Kind) (s : Story A) → undivided_kind k ≡ accepted
      → undivided_story (finished k s) ≡ finished accepted (undivided_story s)
  finishes k s e = λ i. record {
    marks = (settles (done k) s.marks ∙ ap (λ (j : Kind). settled (done j) (map undivided_mark s.marks)) e) i;
    sections = s.sections ++ (sym (same_hand s) i ∷ []);
  }

  begins : (t : Bool) (b : A) (s : Story A) → undivided_next (begun t b s) ≡ begun t b (undivided_story s)
  begins true b s = λ i. record { mode = outside filling; story = gives (done filler) b s i }
  begins false b s = λ i. record { mode = inside; story = gives in-hand b s i }

  grows : (after : Mode) (k : Kind) → undivided_kind k ≡ accepted → (z : Size) (s : Story A)
      → undivided_next (grown after k z s) ≡ grown after accepted z (undivided_story s)
  grows after k e going s = refl
  grows after k e whole s = λ i. record { mode = after; story = finishes k s e i }
  grows after k e too_long s = λ i. record { mode = outside breaking; story = breaks s i }

  joins_alike : (t : Bool) (s : Story A) → undivided_story (joined t s) ≡ joined t (undivided_story s)
  joins_alike true s = refl
  joins_alike false s = breaks s

rest_same : (m : Rest) → undivided_kind (kind_of m) ≡ kind_of m
rest_same filling = refl
rest_same skipping = refl
rest_same breaking = refl

-- ---- a packet, where each whole section comes to one of the two

module _ (comes : List ℕ → Kind) (parts : (l : List ℕ) → undivided_kind (comes l) ≡ accepted) {A : Type 0}
    (value : A → ℕ) where
  byte_alike : (after m : Mode) (b : A) (s : Story A)
      → undivided_next (byte_in comes value after m b s) ≡ byte_in delivers value after m b (undivided_story s)
  byte_alike after begin b s = begins (eqb (value b) 255) b s
  byte_alike after inside b s =
      let run : List ℕ = map value (hand_of s ++ (b ∷ [])) in
      grows after (comes run) (parts run) (size_of run) (given in-hand b s)
      ∙ λ i. grown after accepted (size_of (map value (sym (same_hand s) i ++ (b ∷ [])))) (gives in-hand b s i)
  byte_alike after (outside m) b s = λ i. record {
    mode = outside m;
    story = (gives (done (kind_of m)) b s ∙ ap (λ (k : Kind). given (done k) b (undivided_story s)) (rest_same m)) i;
  }

  stretch_alike : (after : Mode) (n : Next A) (bs : List A)
      → undivided_next (stretch comes value after n bs) ≡ stretch delivers value after (undivided_next n) bs
  stretch_alike after n [] = refl
  stretch_alike after n (b ∷ bs) =
      stretch_alike after (byte_in comes value after n.mode b n.story) bs
      ∙ ap (λ (m : Next A). stretch delivers value after m bs) (byte_alike after n.mode b n.story)

  goes_alike : (s : Story A) (bs : List A)
      → undivided_story (goesOn comes value s bs) ≡ goesOn delivers value (undivided_story s) bs
  goes_alike s bs =
      ap (λ (n : Next A). n.story)
      (stretch_alike (outside filling) (record { mode = resumed (hand_of s); story = s }) bs)
      ∙ ap (λ (h : List A). (stretch delivers value (outside filling)
      (record { mode = resumed h; story = undivided_story s }) bs).story)
      (sym (same_hand s))

  sections_alike : (s : Story A) (bs : List A)
      → undivided_story (sections_in comes value s bs) ≡ sections_in delivers value (undivided_story s) bs
  sections_alike s bs = ap (λ (n : Next A). n.story) (stretch_alike begin (record { mode = begin; story = s }) bs)

  payload_alike : (start : Bool) (s : Story A) (bs : List A)
      → undivided_story (payload comes value start s bs) ≡ payload delivers value start (undivided_story s) bs
  payload_alike false s bs = goes_alike s bs
  payload_alike true s [] = refl
  payload_alike true s (p ∷ bs) =
      let front : Story A = goesOn comes value (given (done pointer) p s) (take (value p) bs) in
      sections_alike (broken_off front) (drop (value p) bs)
      ∙ ap (λ (y : Story A). sections_in delivers value y (drop (value p) bs))
      (breaks front
      ∙ ap broken_off
      (goes_alike (given (done pointer) p s) (take (value p) bs)
      ∙ ap (λ (y : Story A). goesOn delivers value y (take (value p) bs)) (gives (done pointer) p s)))

  taken_alike : (last : Option ℕ) (s : Story A) (q : Carried A)
      → undivided_story (story_after comes value last s q) ≡ story_after delivers value last (undivided_story s) q
  taken_alike last s q =
      let next : Bool = joins last q.spliced q.counter in
      payload_alike q.start (joined next s) q.bytes
      ∙ ap (λ (y : Story A). payload delivers value q.start y q.bytes) (joins_alike next s)

-- ---- a history

abbrev undivided_history : History → History
undivided_history h = record { last = h.last; packets = h.packets; story = undivided_story h.story }

module _ (comes : List ℕ → Kind) (parts : (l : List ℕ) → undivided_kind (comes l) ≡ accepted) where
  history_alike : (h : History) (qs : List (Carried ℕ))
      → undivided_history (history_from comes h qs) ≡ history_from delivers (undivided_history h) qs
  history_alike h [] = refl
  history_alike h (q ∷ qs) =
      history_alike (history_after comes h q) qs
      ∙ ap (λ (y : History). history_from delivers y qs) (λ i. record {
        last = some q.counter;
        packets = h.packets + 1;
        story = taken_alike comes parts value_of h.last h.story (numbered_in h.packets q) i;
      })

  story_alike : (qs : List (Carried ℕ)) → undivided_story (history_of comes qs).story ≡ (history_of delivers qs).story
  story_alike qs = ap (λ (h : History). h.story) (history_alike unbegun qs)

-- all of them were delivered
all_delivered : (secs : List (List Byte)) → sections_of delivers value_of accepted secs ≡ secs
all_delivered [] = refl
all_delivered (s ∷ secs) = ap (λ (l : List (List Byte)). s ∷ l) (all_delivered secs)

said_parts : (v : Said) → undivided_kind (kind_said v) ≡ accepted
said_parts Verdict.accepted = refl
said_parts (refused k p) = refl

pub collect_then_judge : CollectThenJudge
collect_then_judge qs =
    let e = story_alike by_judge (λ l. said_parts (judged l)) qs in
    let marks = ap (λ (s : Story Byte). s.marks) e in
    let secs = ap (λ (s : Story Byte). s.sections) e in
    let before = secs ∙ sym (all_delivered (history_of delivers qs).story.sections) in
    record {
      same_sections = secs;
      same_marks = marks;
      same_bytes = λ f a r.
          sym (bytes_by_lem f (same_fate_lem f a r) (history_of by_judge qs).story.marks) ∙ ap (bytes_of f) marks;
      counts_split = counts_split (history_of by_judge qs).story.marks ∙ ap (count_of (done accepted)) marks;
      accepted_are = ap (sections_of by_judge value_of accepted) before;
      rejected_are = ap (sections_of by_judge value_of rejected) before;
    }

pub collects_then_judges : CollectsThenJudges Promised
collects_then_judges pid hold calls r hold' x =
    subst (λ (qs : List (Carried ℕ)). Splits (story_by pid hold calls) (history_of delivers qs).story)
    (sym (taken_by pid hold calls r hold' x)) (collect_then_judge (taken_by_rule pid hold calls))
