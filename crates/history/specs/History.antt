-- The fates over whole histories: a definition over the packets taken alone. A byte of payload is known by the number
-- of its packet, counted from 0 among the packets taken that have payload.
use Rattle.std.specs.Prelude.{◌≡◌, List, [], ◌∷◌, ◌++◌, map, ℕ, ◌+◌, ◌%◌, ◌≤◌, ◌<◌, length, get_or}
use Rattle.std.proofs.Math.Option.{Option, none, some}
use Rattle.wire.specs.Each.{Each}
use Rattle.packet.specs.Ruling.{Carried}
use Rattle.collector.specs.Rules.{Kind, Story, holding, story_after}

pub record Byte : Type 0 where
  pub packet : ℕ
  pub value : ℕ

abbrev pub value_of : Byte → ℕ
value_of b = b.value

-- the payload of packet number k
abbrev pub numbered : ℕ → List ℕ → List Byte
numbered k bs = map (λ v. record { packet = k; value = v }) bs

-- the last counter or none, how many packets with payload were taken, and the story of their bytes
pub record History : Type 0 where
  pub last : Option ℕ
  pub packets : ℕ
  pub story : Story Byte

abbrev pub unbegun : History
unbegun = record { last = none; packets = 0; story = holding [] }

abbrev pub numbered_in : ℕ → Carried ℕ → Carried Byte
numbered_in k q = record { counter = q.counter; start = q.start; spliced = q.spliced; bytes = numbered k q.bytes }

-- whatever a whole section comes to
module _ (comes : List ℕ → Kind) where
  -- "Fates then, as they stand after the packets so far"
  abbrev pub history_after : History → Carried ℕ → History
  history_after h q = record {
    last = some q.counter;
    packets = h.packets + 1;
    story = story_after comes value_of h.last h.story (numbered_in h.packets q);
  }

  abbrev pub history_from : History → List (Carried ℕ) → History
  history_from h [] = h
  history_from h (q ∷ qs) = history_from (history_after h q) qs

  abbrev pub history_of : List (Carried ℕ) → History
  history_of qs = history_from unbegun qs

-- "every payload byte of the packets taken so far", packet after packet, from packet number k on
abbrev pub payloads_from : ℕ → List (Carried ℕ) → List Byte
payloads_from k [] = []
payloads_from k (q ∷ qs) = numbered k q.bytes ++ payloads_from (k + 1) qs

-- ---- a break in the counter

abbrev pub counter_at : List (Carried ℕ) → ℕ → ℕ
counter_at qs k = get_or (map (λ q. q.counter) qs) k 0

-- "a break in the continuity counter from one taken packet with payload to the next": from number k to the one after it
pub record BreakAfter (qs : List (Carried ℕ)) (k : ℕ) : Type 0 where
  pub two : k + 1 < length qs
  pub break : counter_at qs (k + 1) ≡ (counter_at qs k + 1) % 16 → ⊥

-- a section with a byte on each side of a break
pub record Spans (qs : List (Carried ℕ)) (x y : Byte) : Type 0 where
  pub at : ℕ
  pub before : x.packet ≤ at
  pub behind : at < y.packet
  pub broken : BreakAfter qs at

-- "no delivered section spans a break": no two of its bytes do
abbrev pub Unbroken : List (Carried ℕ) → List Byte → Type 0
Unbroken qs section = Each (λ x. Each (λ y. Spans qs x y → ⊥) section) section

-- ---- a mark

-- "or a mark": splices are numbers of packets, each with a splice in front of it. No two bytes of the section have one between them.
abbrev pub Unmarked : List ℕ → List Byte → Type 0
Unmarked splices section = Each (λ k. Each (λ x. Each (λ y. x.packet < k → k ≤ y.packet → ⊥) section) section) splices

-- the elements of a list in their order, some of them left out
pub data Among {A : Type 0} : List A → List A → Type 0 where
  none_left : Among [] []
  left_out : {x : A} {part whole : List A} → Among part whole → Among part (x ∷ whole)
  had : {x : A} {part whole : List A} → Among part whole → Among (x ∷ part) (x ∷ whole)
