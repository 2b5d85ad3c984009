-- That the writer's packets obey the rule, whatever the PID, the counter and the sections, of which none is empty.
use mathlib.Core.Path.{◌≡◌, refl, sym, ap, ◌∙◌, subst}
use mathlib.Core.Bool.{Bool, true, false, false≢true}
use mathlib.Core.List.{List, [], ◌∷◌, ◌++◌, append_assoc, append-nil, map, map-append, flatten}
use mathlib.Core.Logic.{◌⊎◌, inl, inr, ⊎_elim}
use Prim.Native.Nat.{ℕ, zero, suc, ◌+◌, ◌-◌, ◌≤◌, ◌<◌}
use native.Mathlib.Omega.{arith}
use lib.ListN.{length, take, drop, replicate, length-append, length-take, length-map, length-replicate, take-append-drop}
use lib.Seq.{take_at, take-append-add, take-append-le}
use lib.Dec.{leb}
use Rattle.std.specs.Prelude.{if◌then◌else◌}
use Rattle.wire.specs.Each.{Each}
use Rattle.wire.proofs.EachLaws.{each_append, each_take}
use Rattle.collector.proofs.ByteRuns.{lt_or_ge}
use Rattle.writer.specs.Layout.{Ahead, sum, bytes_ahead, Turn, least, waits, turn_of, behind, turns_from, unbegun, Cell, pointer, byte, filler, Payload, pointed, filled_up, payload_of, laid_out}
use Rattle.writer.specs.Packets.{packets_from, packets_of}
use Rattle.writer.proofs.TurnLaws.{least_law, Flagged, Unflagged, TurnIs, flagged, unflagged, turn_is, none_ahead, Takes, turn_takes, behind_ahead, turns_stop, turns_on}
use Rattle.reverse.specs.Places.{Place, placed}
use Rattle.reverse.specs.Rule.{bytes_in, NoPointer, BeginsNothing, Points, FlagBy, NoneWaits, OneLeft, FillerOnly, AllHeaded, Obeys}
use Rattle.reverse.proofs.CellLaws.{Cells, none_there, bytes_in_filled, bytes_in_fillers, NoBegin, begins_of_bytes, begins_of_fillers, pointerless_bytes, pointerless_fillers, no_filler_bytes, AtEnd, at-end}
use Rattle.reverse.proofs.AheadLaws.{Tail, Whole, AheadOf, tail_begins_none, ahead_length, ahead_first, ahead_laid, tail-end}
use Rattle.reverse.proofs.PacketLaws.{all_headed, valued_layout}

-- ---- the turns, one by one

-- a turn as long as bytes are ahead, and none where there is none
abbrev Course : Ahead → List Turn → Type 0
Course a [] = bytes_ahead a ≡ 0
Course a (t ∷ ts) = (0 < bytes_ahead a) × (t ≡ turn_of a) × Course (behind a) ts

course_within : (n : ℕ) (a : Ahead) → bytes_ahead a ≤ n → Course a (turns_from a)
course_within zero a k =
    let none : bytes_ahead a ≡ 0 = omega (arith, k) in
    subst (Course a) (sym (turns_stop a none)) none
course_within (suc n) a k =
    ⊎_elim
    (λ v. subst (Course a) (sym (turns_on a v))
    (v, refl, course_within n (behind a) (omega (arith, k, behind_ahead a, (turn_takes a).some v))))
    (λ v. let none : bytes_ahead a ≡ 0 = omega arith in subst (Course a) (sym (turns_stop a none)) none)
    (lt_or_ge 0 (bytes_ahead a))

course_from : (a : Ahead) → Course a (turns_from a)
course_from a = course_within (bytes_ahead a) a (omega arith)

pub ahead_next : (bytes : List Place) (a : Ahead) → AheadOf bytes a → AheadOf (drop (turn_of a).bytes bytes) (behind a)
ahead_next bytes a h = ahead_laid (turn_of a).bytes bytes a h (turn_takes a).there

nothing_more : (P : Payload Place → Type 0) (ts : List Turn) (a : Ahead) (l : List Place) → Course a ts
    → bytes_ahead a ≡ 0 → Each P (laid_out ts l)
nothing_more P [] a l c e = tt
nothing_more P (t ∷ ts) a l c e = absurd (omega (arith, c.0, e))

-- ---- the bytes of a payload

pub payload_bytes : (t : Turn) (bytes : List Place) → bytes_in (payload_of t bytes).cells ≡ take t.bytes bytes
payload_bytes t bytes =
    go t.start (take t.bytes bytes) (184 - length (pointed t ++ map byte (take t.bytes bytes)))
  where
    go : (start : Bool) (l : List Place) (k : ℕ)
        → bytes_in (((if start then pointer t.left ∷ [] else []) ++ map byte l) ++ replicate k filler) ≡ l
    go true l k = bytes_in_filled l k
    go false l k = bytes_in_filled l k

length_filled : (c : Cells) → length c ≤ 184 → length (filled_up c) ≡ 184
length_filled c k =
    let n : ℕ = 184 - length c in
    let fill : length (replicate {A = Cell Place} n filler) ≡ n = length-replicate n filler in
    omega (arith, length-append c (replicate n filler), fill)

length_bytes : (n : ℕ) (bytes : List Place) → length (map byte (take n bytes)) ≤ n
length_bytes n bytes = omega (arith, length-map {B = Cell Place} (take n bytes) byte, length-take n bytes)

payload_long : (a : Ahead) (t : Turn) (bytes : List Place) → Takes a t → length (payload_of t bytes).cells ≡ 184
payload_long a t bytes x = go t.start x.in_payload
  where
    go : (start : Bool) → t.bytes + (if start then 1 else 0) ≤ 184
        → length (filled_up ((if start then pointer t.left ∷ [] else []) ++ map byte (take t.bytes bytes))) ≡ 184
    go true k =
        length_filled (pointer t.left ∷ map byte (take t.bytes bytes))
        (omega (arith, k, length_bytes t.bytes bytes))
    go false k =
        length_filled (map byte (take t.bytes bytes)) (omega (arith, k, length_bytes t.bytes bytes))

-- ---- the flag

least_above : (l m n : ℕ) → l < m → l < n → l < least m n
least_above l m n k j = at (leb m n)
  where
    at : (t : Bool) → l < (if t then m else n)
    at true = k
    at false = j

-- less than the one number, it is the other
least_all : (m n : ℕ) → least m n < m → least m n ≡ n
least_all m n = at (leb m n)
  where
    at : (t : Bool) → (if t then m else n) < m → (if t then m else n) ≡ n
    at true k = absurd (omega arith)
    at false k = refl

points : (left m : ℕ) (rest : List Place) (ws : List (List Place)) → Tail rest → Each Whole ws → length rest ≡ left
    → waits (map length ws) ≡ true → left < m
    → Points (filled_up (pointer left ∷ map byte (take m (rest ++ flatten ws))))
unfolding flatten
points left m rest [] t x e w k = absurd (false≢true w)
points left m rest ([] ∷ ws) t x e w k = absurd x.0
points left m rest ((b ∷ bs) ∷ ws) t x e w k =
    let j : ℕ = m - suc left in
    let is : m ≡ length rest + suc j = omega arith in
    let more : List Place = take j (bs ++ flatten ws) in
    let cut : take m (rest ++ (b ∷ (bs ++ flatten ws))) ≡ rest ++ (b ∷ more) =
    ap (λ (n : ℕ). take n (rest ++ (b ∷ (bs ++ flatten ws)))) is
    ∙ take-append-add rest (b ∷ (bs ++ flatten ws)) (suc j) in
    let fill : Cells =
    replicate (184 - length (pointer left ∷ map byte (take m (rest ++ (b ∷ (bs ++ flatten ws)))))) filler in
    record {
      to = left;
      front = map byte rest;
      first = b;
      back = map byte more ++ fill;
      whole =
          ap (λ (l : Cells). pointer left ∷ (l ++ fill)) (ap (map byte) cut ∙ map-append byte rest (b ∷ more))
          ∙ ap (λ (l : Cells). pointer left ∷ l) (append_assoc (map byte rest) (map byte (b ∷ more)) fill);
      leads = length-map rest byte ∙ e;
      begins = x.0.0;
      none_before = begins_of_bytes rest (tail_begins_none rest t);
      no_other = each_append NoPointer (map byte more) fill (pointerless_bytes more)
          (pointerless_fillers (184 - length (pointer left ∷ map byte (take m (rest ++ (b ∷ (bs ++ flatten ws)))))));
    }

-- where one waits, there are more bytes than are left
pub some_waits : (left : ℕ) (ws : List (List Place)) → Each Whole ws → waits (map length ws) ≡ true
    → left < left + sum (map length ws)
some_waits left [] x w = absurd (false≢true w)
some_waits left ([] ∷ ws) x w = absurd x.0
some_waits left ((b ∷ bs) ∷ ws) x w = omega arith

abbrev FlagOf : List Place → Turn → Type 0
FlagOf bytes t = FlagBy t.start (payload_of t bytes).cells

flag_by : (bytes : List Place) (a : Ahead) (t : Turn) → AheadOf bytes a → TurnIs a t → FlagOf bytes t
flag_by bytes a t h (flagged f) =
    let w : waits (map length h.wholes) ≡ true = ap waits h.waiting_are ∙ f.one_waits in
    let above : a.left < bytes_ahead a =
    omega (arith, some_waits a.left h.wholes h.are_whole w, ap sum h.waiting_are) in
    let m : ℕ = least 183 (bytes_ahead a) in
    subst (FlagOf bytes) (sym f.is)
    (subst (λ (l : List Place). Points (filled_up (pointer a.left ∷ map byte (take m l)))) (sym h.are)
    (points a.left m h.rest h.wholes h.is_tail h.are_whole h.left_is w
    (least_above a.left 183 (bytes_ahead a) f.few above)))
flag_by bytes a t h (unflagged u) =
    let m : ℕ = least 184 a.left in
    let few : m ≤ length h.rest = omega (arith, (least_law 184 a.left).second, h.left_is) in
    let laid : List Place = take m bytes in
    let is : laid ≡ take m h.rest =
    ap (take m) h.are ∙ take-append-le m h.rest (flatten h.wholes) few in
    let none : Each NoBegin laid =
    subst (Each NoBegin) (sym is) (each_take NoBegin m h.rest (tail_begins_none h.rest h.is_tail)) in
    subst (FlagOf bytes) (sym u.is)
    (each_append BeginsNothing (map byte laid) (replicate (184 - length (map byte laid)) filler)
    (begins_of_bytes laid none) (begins_of_fillers (184 - length (map byte laid))))

-- ---- fillers

-- a filler at a payload's end, where what is before it is shorter than 184
filler_room : (c : Cells) (front back : Cells) → AtEnd c (184 - length c) front back → length c < 184
filler_room c front back r = omega (arith, r.all)

module _ (bytes : List Place) (a : Ahead) (h : AheadOf bytes a) (ts : List Turn) (c : Course (behind a) ts) where
  abbrev FillersOf : Turn → Type 0
  FillersOf t = (front back : Cells) → (payload_of t bytes).cells ≡ front ++ (filler ∷ back)
      → NoneWaits back (laid_out ts (drop t.bytes bytes)) ⊎ OneLeft t.start front back

  -- once all bytes are laid, none waits
  none_waits : (n m : ℕ) (back : Cells) → (turn_of a).bytes ≡ n → n ≡ bytes_ahead a → back ≡ replicate m filler
      → NoneWaits back (laid_out ts (drop n bytes))
  none_waits n m back e f g = (
    ap bytes_in g ∙ bytes_in_fillers m,
    nothing_more (λ p. bytes_in p.cells ≡ []) ts (behind a) (drop n bytes) c (omega (arith, behind_ahead a, e, f)),
  )

  length_laid : (n : ℕ) → n ≤ bytes_ahead a → length (map byte (take n bytes)) ≡ n
  length_laid n k =
      omega (arith, length-map {B = Cell Place} (take n bytes) byte, length-take n bytes, ahead_length bytes a h, k)

  fillers_flagged : Flagged a (turn_of a)
      → FillersOf (record { start = true; left = a.left; bytes = least 183 (bytes_ahead a) })
  fillers_flagged f front back e =
      let m : ℕ = least 183 (bytes_ahead a) in
      let l = least_law 183 (bytes_ahead a) in
      let cells : Cells = pointer a.left ∷ map byte (take m bytes) in
      let r = at-end cells (tt, no_filler_bytes (take m bytes)) (184 - length cells) front back e in
      let room : m < 183 = omega (arith, filler_room cells front back r, length_laid m l.second) in
      let all : m ≡ bytes_ahead a = least_all 183 (bytes_ahead a) room in
      inl (none_waits m r.others back (ap (λ (t : Turn). t.bytes) f.is) all r.back_is)

  -- the one byte left, behind the last of the section begun
  one_left : (cells front back : Cells) → cells ≡ map byte (take 183 bytes) → a.left ≡ 183 → AtEnd cells 1 front back
      → OneLeft false front back
  one_left cells front back e left r =
      let rest-is : take 183 bytes ≡ h.rest =
      ap (take 183) h.are ∙ take_at h.rest (flatten h.wholes) 183 (h.left_is ∙ left) in
      let z = tail-end h.rest h.is_tail (omega (arith, h.left_is, left)) in
      let no_more : r.fillers ≡ 0 = omega (arith, r.all) in
      let no-others : r.others ≡ 0 = omega (arith, r.all) in
      record {
        no_flag = refl;
        last = r.back_is ∙ ap (λ (n : ℕ). replicate n filler) no-others;
        others = map byte z.others;
        end = z.end;
        directly = r.front_is ∙ ap (λ (n : ℕ). cells ++ replicate n filler) no_more ∙ append-nil cells
            ∙ e ∙ ap (map byte) (rest-is ∙ z.is) ∙ map-append byte z.others (z.end ∷ []);
        ends = z.ends;
      }

  fillers_unflagged : Unflagged a (turn_of a)
      → FillersOf (record { start = false; left = a.left; bytes = least 184 a.left })
  fillers_unflagged u front back e =
      let m : ℕ = least 184 a.left in
      let l = least_law 184 a.left in
      let cells : Cells = map byte (take m bytes) in
      let r = at-end cells (no_filler_bytes (take m bytes)) (184 - length cells) front back e in
      let long : length cells ≡ m = length_laid m (omega (arith, l.second)) in
      let room : m < 184 = omega (arith, filler_room cells front back r, long) in
      let all : m ≡ a.left = least_all 184 a.left room in
      by (waits a.waiting) refl m (ap (λ (t : Turn). t.bytes) u.is) all room cells refl long r
    where
      by : (t : Bool) → waits a.waiting ≡ t → (m : ℕ) → (turn_of a).bytes ≡ m → m ≡ a.left → m < 184 → (cells : Cells)
          → cells ≡ map byte (take m bytes) → length cells ≡ m → AtEnd cells (184 - length cells) front back
          → NoneWaits back (laid_out ts (drop m bytes)) ⊎ OneLeft false front back
      by true w m f all room cells is long r =
          let left : a.left ≡ 183 = omega (arith, u.full w, all, room) in
          let one : 184 - length cells ≡ 1 = omega (arith, long, all, left) in
          inr (one_left cells front back (is ∙ ap (λ (n : ℕ). map byte (take n bytes)) (all ∙ left)) left
          (subst (λ (n : ℕ). AtEnd cells n front back) one r))
      by false w m f all room cells is long r =
          inl (none_waits m r.others back f (omega (arith, all, none_ahead a.waiting w)) r.back_is)

  fillers_by : (t : Turn) → TurnIs a (turn_of a) → t ≡ turn_of a → FillersOf t
  fillers_by t (flagged f) e = subst FillersOf (sym (e ∙ f.is)) (fillers_flagged f)
  fillers_by t (unflagged u) e = subst FillersOf (sym (e ∙ u.is)) (fillers_unflagged u)

-- ---- all payloads

record Fine (ts : List Turn) (bytes : List Place) : Type 0 where
  long : Each (λ p. length p.cells ≡ 184) (laid_out ts bytes)
  laid_once : flatten (map (λ p. bytes_in p.cells) (laid_out ts bytes)) ≡ bytes
  not_idle : Each (λ p. bytes_in p.cells ≡ [] → ⊥) (laid_out ts bytes)
  flags : Each (λ p. FlagBy p.start p.cells) (laid_out ts bytes)
  fillers : FillerOnly (laid_out ts bytes)

some_there : (n : ℕ) (bytes : List Place) → 0 < n → n ≤ length bytes → take n bytes ≡ [] → ⊥
some_there n bytes k j e = omega (arith, length-take n bytes, ap length e)

fine : (ts : List Turn) (bytes : List Place) (a : Ahead) → AheadOf bytes a → Course a ts → Fine ts bytes
unfolding flatten
fine [] bytes a h c = record {
  long = tt;
  laid_once = sym (none_there bytes (ahead_length bytes a h ∙ c));
  not_idle = tt;
  flags = tt;
  fillers = tt;
}
fine (t ∷ ts) bytes a h c =
    let takes : Takes a t = subst (Takes a) (sym c.1) (turn_takes a) in
    let next : AheadOf (drop t.bytes bytes) (behind a) =
    subst (λ (z : Turn). AheadOf (drop z.bytes bytes) (behind a)) (sym c.1) (ahead_next bytes a h) in
    let r = fine ts (drop t.bytes bytes) (behind a) next c.2 in
    let laid = payload_bytes t bytes in
    let there : t.bytes ≤ length bytes = omega (arith, takes.there, ahead_length bytes a h) in
    record {
      long = (payload_long a t bytes takes, r.long);
      laid_once = (λ i. laid i ++ r.laid_once i) ∙ take-append-drop t.bytes bytes;
      not_idle = (λ e. some_there t.bytes bytes (takes.some c.0) there (sym laid ∙ e), r.not_idle);
      flags = (flag_by bytes a t h (subst (TurnIs a) (sym c.1) (turn_is a)), r.flags);
      fillers = (fillers_by bytes a h ts c.2 t (turn_is a) c.1, r.fillers);
    }

-- ---- the rule

pub our_layout : (pid counter : ℕ) (sections : List (List ℕ)) → pid ≤ 8191 → counter ≤ 15
    → Each (λ s. 0 < length s) sections → Obeys pid counter sections (packets_of pid counter sections)
our_layout pid counter sections k j x =
    let a : Ahead = unbegun (map length sections) in
    let bytes : List Place = flatten (placed sections) in
    let ps : List (Payload Place) = laid_out (turns_from a) bytes in
    let r = fine (turns_from a) bytes a (ahead_first sections x) (course_from a) in
    record {
      payloads = ps;
      headed = subst (λ (z : List (Payload ℕ)). AllHeaded pid counter ps (packets_from pid counter z))
          (valued_layout sections) (all_headed pid counter k j ps r.long);
      long = r.long;
      laid_once = r.laid_once;
      not_idle = r.not_idle;
      flags = r.flags;
      fillers = r.fillers;
    }
