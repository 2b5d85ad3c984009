-- The packets of payloads that are told by places: they have the header of the rule, and no other packets have it; and
-- they are the writer's, whose layout looks at no byte.
use mathlib.Core.Path.{◌≡◌, refl, sym, ap, ◌∙◌}
use mathlib.Core.Bool.{Bool, true, false}
use mathlib.Core.List.{List, [], ◌∷◌, ◌++◌, map, map-append, flatten}
use Prim.Native.Nat.{ℕ, zero, suc, ◌+◌, ◌-◌, ◌/◌, ◌%◌, ◌≤◌}
use native.Mathlib.Omega.{arith}
use lib.ListN.{length, take, drop, replicate, length-map}
use Rattle.std.specs.Prelude.{if◌then◌else◌}
use Rattle.wire.specs.Each.{Each}
use Rattle.writer.specs.Layout.{Cell, pointer, byte, filler, Payload, Turn, pointed, filled_up, payload_of, laid_out, turns_from, unbegun, layout}
use Rattle.writer.specs.Packets.{packet_of, packets_from}
use Rattle.writer.specs.Packets as Packets
use Rattle.reverse.specs.Places.{Place, places_of, placed_from, placed}
use Rattle.reverse.specs.Rule.{value_of, Headed, AllHeaded}
use Rattle.reverse.proofs.CellLaws.{Cells}
use Rattle.reverse.proofs.HeaderLaws.{flag_byte, payload_at, packet_long, no_error, flag_is, pid_is, clear, control_is, counter_is, high_bits, flags_are}

-- ---- the payloads, by the bytes' values

abbrev valued_cell : Cell Place → Cell ℕ
valued_cell (pointer p) = pointer p
valued_cell (byte b) = byte b.value
valued_cell filler = filler

abbrev pub valued : Payload Place → Payload ℕ
valued p = record { start = p.start; cells = map valued_cell p.cells }

values_are : (c : Cells) → map Packets.value_of (map valued_cell c) ≡ map value_of c
values_are [] = refl
values_are (pointer p ∷ c) = ap (λ (l : List ℕ). p ∷ l) (values_are c)
values_are (byte b ∷ c) = ap (λ (l : List ℕ). b.value ∷ l) (values_are c)
values_are (filler ∷ c) = ap (λ (l : List ℕ). 255 ∷ l) (values_are c)

-- ---- the header

header_is : (pid counter : ℕ) → pid ≤ 8191 → counter ≤ 15 → (p : Payload Place) → length p.cells ≡ 184
    → Headed pid counter p (packet_of pid counter (valued p))
header_is pid counter k j p e =
    let body : List ℕ = map Packets.value_of (map valued_cell p.cells) in
    let field = control_is pid counter p.start body k j in
    record {
      long = packet_long pid counter p.start body k j
          (omega (arith, e, length-map (map valued_cell p.cells) Packets.value_of, length-map p.cells valued_cell));
      sync = refl;
      no_error = no_error pid counter p.start body k j;
      flag = flag_is pid counter p.start body k j;
      no_priority = (flag_byte pid k p.start).no_priority;
      a_byte = omega arith;
      pid_is = pid_is pid counter p.start body k j;
      clear = clear pid counter p.start body k j;
      no_field = field;
      counter_is = counter_is pid counter p.start body k j;
      payload_is = payload_at (packet_of pid counter (valued p)) field ∙ values_are p.cells;
    }

pub all_headed : (pid counter : ℕ) → pid ≤ 8191 → counter ≤ 15 → (ps : List (Payload Place))
    → Each (λ p. length p.cells ≡ 184) ps → AllHeaded pid counter ps (packets_from pid counter (map valued ps))
all_headed pid counter k j [] x = tt
all_headed pid counter k j (p ∷ ps) x = (
  header_is pid counter k j p x.0,
  all_headed pid ((counter + 1) % 16) k (omega arith) ps x.1,
)

-- ---- and no other

headed_only : (pid counter : ℕ) (p : Payload Place) (x : List ℕ) → Headed pid counter p x
    → x ≡ packet_of pid counter (valued p)
headed_only pid counter p [] h = absurd (omega (arith, h.long))
headed_only pid counter p (a ∷ []) h = absurd (omega (arith, h.long))
headed_only pid counter p (a ∷ (b ∷ [])) h = absurd (omega (arith, h.long))
headed_only pid counter p (a ∷ (b ∷ (c ∷ []))) h = absurd (omega (arith, h.long))
headed_only pid counter p (a ∷ (b ∷ (c ∷ (d ∷ l)))) h =
    let first : b ≡ (if p.start then 64 else 0) + pid / 256 =
    flags_are b pid p.start (record {
      no_error = h.no_error;
      flag = h.flag;
      no_priority = h.no_priority;
      high = high_bits (b % 32) c pid h.pid_is h.a_byte;
    }) in
    let second : c ≡ pid % 256 = omega (arith, h.pid_is, h.a_byte) in
    let third : d ≡ 16 + counter = omega (arith, h.clear, h.no_field, h.counter_is) in
    let load : l ≡ map Packets.value_of (map valued_cell p.cells) =
    sym (payload_at (a ∷ b ∷ c ∷ d ∷ l) h.no_field) ∙ h.payload_is ∙ sym (values_are p.cells) in
    λ i. h.sync i ∷ first i ∷ second i ∷ third i ∷ load i

pub all_headed_only : (pid counter : ℕ) (ps : List (Payload Place)) (xs : List (List ℕ)) → AllHeaded pid counter ps xs
    → xs ≡ packets_from pid counter (map valued ps)
all_headed_only pid counter [] [] h = refl
all_headed_only pid counter [] (x ∷ xs) h = absurd h
all_headed_only pid counter (p ∷ ps) [] h = absurd h
all_headed_only pid counter (p ∷ ps) (x ∷ xs) h = λ i.
    headed_only pid counter p x h.0 i ∷ all_headed_only pid ((counter + 1) % 16) ps xs h.1 i

-- ---- a layout looks at no byte

map_take : {A B : Type 0} (f : A → B) (n : ℕ) (l : List A) → map f (take n l) ≡ take n (map f l)
map_take f zero l = refl
map_take f (suc n) [] = refl
map_take {B = B} f (suc n) (a ∷ l) = ap (λ (m : List B). f a ∷ m) (map_take f n l)

map_drop : {A B : Type 0} (f : A → B) (n : ℕ) (l : List A) → map f (drop n l) ≡ drop n (map f l)
map_drop f zero l = refl
map_drop f (suc n) [] = refl
map_drop f (suc n) (a ∷ l) = map_drop f n l

abbrev values : List Place → List ℕ
values l = map (λ b. b.value) l

valued_bytes : (l : List Place) → map valued_cell (map byte l) ≡ map byte (values l)
valued_bytes [] = refl
valued_bytes (b ∷ l) = ap (λ (m : List (Cell ℕ)). byte b.value ∷ m) (valued_bytes l)

valued_fillers : (n : ℕ) → map valued_cell (replicate n filler) ≡ replicate n filler
valued_fillers zero = refl
valued_fillers (suc n) = ap (λ (m : List (Cell ℕ)). filler ∷ m) (valued_fillers n)

valued_filled : (c : Cells) → map valued_cell (filled_up c) ≡ filled_up (map valued_cell c)
valued_filled c =
    map-append valued_cell c (replicate (184 - length c) filler)
    ∙ ap (λ (m : List (Cell ℕ)). map valued_cell c ++ m) (valued_fillers (184 - length c))
    ∙ ap (λ (n : ℕ). map valued_cell c ++ replicate (184 - n) filler) (sym (length-map c valued_cell))

valued_pointed : (start : Bool) (left : ℕ)
    → map valued_cell (if start then pointer left ∷ [] else []) ≡ (if start then pointer left ∷ [] else [])
valued_pointed true left = refl
valued_pointed false left = refl

valued_payload : (t : Turn) (bytes : List Place) → valued (payload_of t bytes) ≡ payload_of t (values bytes)
valued_payload t bytes =
    let cells : map valued_cell (filled_up (pointed t ++ map byte (take t.bytes bytes)))
    ≡ filled_up (pointed t ++ map byte (take t.bytes (values bytes))) =
    valued_filled (pointed t ++ map byte (take t.bytes bytes))
    ∙ ap filled_up (map-append valued_cell (pointed t) (map byte (take t.bytes bytes))
    ∙ (λ i. valued_pointed t.start t.left i
    ++ (valued_bytes (take t.bytes bytes) ∙ ap (map byte) (map_take (λ b. b.value) t.bytes bytes)) i)) in
    λ i. record { start = t.start; cells = cells i }

valued_laid : (ts : List Turn) (bytes : List Place) → map valued (laid_out ts bytes) ≡ laid_out ts (values bytes)
valued_laid [] bytes = refl
valued_laid (t ∷ ts) bytes = λ i.
    valued_payload t bytes i
    ∷ (valued_laid ts (drop t.bytes bytes) ∙ ap (laid_out ts) (map_drop (λ b. b.value) t.bytes bytes)) i

values_places : (i j : ℕ) (s : List ℕ) → values (places_of i j s) ≡ s
values_places i j [] = refl
values_places i j (v ∷ vs) = ap (λ (l : List ℕ). v ∷ l) (values_places i (j + 1) vs)

values_placed : (i : ℕ) (ss : List (List ℕ)) → values (flatten (placed_from i ss)) ≡ flatten ss
unfolding flatten
values_placed i [] = refl
values_placed i (s ∷ ss) =
    map-append (λ b. b.value) (places_of i 0 s) (flatten (placed_from (i + 1) ss))
    ∙ (λ k. values_places i 0 s k ++ values_placed (i + 1) ss k)

-- the layout of the places is the layout of the sections
pub valued_layout : (ss : List (List ℕ))
    → map valued (laid_out (turns_from (unbegun (map length ss))) (flatten (placed ss))) ≡ layout ss
valued_layout ss =
    valued_laid (turns_from (unbegun (map length ss))) (flatten (placed ss))
    ∙ ap (laid_out (turns_from (unbegun (map length ss)))) (values_placed 0 ss)
