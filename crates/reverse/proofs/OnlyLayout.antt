-- That the writer's packets are the only ones that obey the rule: of each payload the flag, the pointer and every byte
-- follow from what is ahead of it, and are the layout's.
use mathlib.Core.Path.{◌≡◌, refl, sym, ap, ◌∙◌, subst}
use mathlib.Core.Bool.{Bool, true, false, true≢false}
use mathlib.Core.List.{List, [], ◌∷◌, ◌++◌, append_assoc, append-nil, append_cancel_left, map, flatten}
use mathlib.Core.Logic.{◌⊎◌, inl, inr, ⊎_elim}
use Prim.Native.Nat.{ℕ, suc, ◌+◌, ◌-◌, ◌≤◌, ◌<◌}
use native.Mathlib.Omega.{arith}
use lib.ListN.{length, take, drop, replicate, length-append, length-map, length-replicate, take-append-drop}
use lib.Seq.{take_at}
use Rattle.wire.specs.Each.{Each}
use Rattle.wire.proofs.EachLaws.{each_append, each_map}
use Rattle.writer.specs.Layout.{Ahead, sum, bytes_ahead, Turn, least, waits, turn_of, behind, turns_from, unbegun, Cell, pointer, byte, filler, Payload, filled_up, payload_of, laid_out}
use Rattle.writer.specs.Packets.{packets_from, packets_of}
use Rattle.writer.proofs.TurnLaws.{least_law, TurnIs, flagged, unflagged, turn_is, turns_stop, turns_on}
use Rattle.reverse.specs.Packets.{RuleExactly}
use Rattle.reverse.specs.Places.{Place, placed}
use Rattle.reverse.specs.Rule.{bytes_in, NoPointer, BeginsNothing, FlagBy, NoneWaits, OneLeft, FillerOnly, Obeys}
use Rattle.reverse.proofs.CellLaws.{Cells, bytes_in_append, bytes_in_bytes, bytes_in_filled, NoBegin, begins_none, no_pointer_cell, only_fillers, FirstFiller, first_filler, all_bytes_before}
use Rattle.reverse.proofs.AheadLaws.{AheadOf, ahead_length, ahead_first, within_rest, begins_at, ends_at}
use Rattle.reverse.proofs.PacketLaws.{valued, all_headed_only, valued_layout}
use Rattle.reverse.proofs.ObeysRule.{ahead_next, payload_bytes, some_waits, our_layout}

-- ---- which turn it is

turn_unflagged : (a : Ahead) → (waits a.waiting ≡ true → 183 ≤ a.left)
    → turn_of a ≡ record { start = false; left = a.left; bytes = least 184 a.left }
turn_unflagged a k = by (turn_is a)
  where
    by : TurnIs a (turn_of a) → turn_of a ≡ record { start = false; left = a.left; bytes = least 184 a.left }
    by (flagged f) = absurd (omega (arith, f.few, k f.one_waits))
    by (unflagged u) = u.is

turn_flagged : (a : Ahead) → waits a.waiting ≡ true → a.left < 183
    → turn_of a ≡ record { start = true; left = a.left; bytes = least 183 (bytes_ahead a) }
turn_flagged a w k = by (turn_is a)
  where
    by : TurnIs a (turn_of a) → turn_of a ≡ record { start = true; left = a.left; bytes = least 183 (bytes_ahead a) }
    by (flagged f) = f.is
    by (unflagged u) = absurd (omega (arith, k, u.full w))

-- ---- how the bytes of a payload end, behind the pointer where it has one

data Ends (start : Bool) (bytes : List Place) (d : Cells) : Type 0 where
  -- it has no filler
  full : (l more : List Place) → bytes ≡ l ++ more → d ≡ map byte l → Ends start bytes d
  -- it has all bytes
  all : (k : ℕ) → d ≡ map byte bytes ++ replicate k filler → Ends start bytes d
  -- one filler stands behind a section's last byte
  one : (l more others : List Place) (end : Place) → bytes ≡ l ++ more → d ≡ map byte l ++ (filler ∷ [])
      → l ≡ others ++ (end ∷ []) → end.behind ≡ 0 → start ≡ false → Ends start bytes d

abbrev rest_of : List (Payload Place) → List Place
rest_of ps = flatten (map (λ p. bytes_in p.cells) ps)

no_payload : (ps : List (Payload Place)) → Each (λ p. bytes_in p.cells ≡ [] → ⊥) ps
    → Each (λ p. bytes_in p.cells ≡ []) ps → rest_of ps ≡ []
unfolding flatten
no_payload [] x y = refl
no_payload (p ∷ ps) x y = absurd (x.0 y.0)

-- what the rule says of a payload's fillers
abbrev FillersIn : Bool → Cells → List (Payload Place) → Type 0
FillersIn start cells ps =
    (front back : Cells) → cells ≡ front ++ (filler ∷ back) → NoneWaits back ps ⊎ OneLeft start front back

module _ (start : Bool) (bytes : List Place) (head d : Cells) (ps : List (Payload Place))
    (none : bytes_in head ≡ []) (plain : Each NoPointer d) (laid : bytes_in (head ++ d) ++ rest_of ps ≡ bytes)
    (busy : Each (λ p. bytes_in p.cells ≡ [] → ⊥) ps)
    (fills : FillersIn start (head ++ d) ps) where
  in_rest : (c : Cells) → bytes_in (head ++ c) ≡ bytes_in c
  in_rest c = bytes_in_append head c ∙ ap (λ (l : List Place). l ++ bytes_in c) none

  laid_d : bytes ≡ bytes_in d ++ rest_of ps
  laid_d = sym laid ∙ ap (λ (l : List Place). l ++ rest_of ps) (in_rest d)

  ends_filler : (f : FirstFiller d)
      → NoneWaits f.back ps ⊎ OneLeft start (head ++ map byte f.bytes) f.back → Ends start bytes d
  ends_filler f (inl w) =
      let back : f.back ≡ replicate (length f.back) filler = only_fillers f.back f.no_pointer w.0 in
      let shape : d ≡ map byte f.bytes ++ replicate (suc (length f.back)) filler =
      f.whole ∙ ap (λ (c : Cells). map byte f.bytes ++ (filler ∷ c)) back in
      let are : bytes ≡ f.bytes =
      laid_d ∙ ap (λ (l : List Place). bytes_in d ++ l) (no_payload ps busy w.1) ∙ append-nil (bytes_in d)
      ∙ ap bytes_in shape ∙ bytes_in_filled f.bytes (suc (length f.back)) in
      all (suc (length f.back))
      (shape ∙ ap (λ (l : List Place). map byte l ++ replicate (suc (length f.back)) filler) (sym are))
  ends_filler f (inr o) =
      let shape : d ≡ map byte f.bytes ++ (filler ∷ []) =
      f.whole ∙ ap (λ (c : Cells). map byte f.bytes ++ (filler ∷ c)) o.last in
      let are : bytes_in d ≡ f.bytes = ap bytes_in shape ∙ bytes_in_filled f.bytes 1 in
      one f.bytes (rest_of ps) (bytes_in o.others) o.end
      (laid_d ∙ ap (λ (l : List Place). l ++ rest_of ps) are) shape
      (sym (in_rest (map byte f.bytes) ∙ bytes_in_bytes f.bytes) ∙ ap bytes_in o.directly
      ∙ bytes_in_append o.others (byte o.end ∷ [])) o.ends o.no_flag

  ends_by : Ends start bytes d
  ends_by =
      ⊎_elim (λ e. full (bytes_in d) (rest_of ps) laid_d e)
      (λ f. ends_filler f (fills (head ++ map byte f.bytes) f.back
      (ap (λ (c : Cells). head ++ c) f.whole ∙ sym (append_assoc head (map byte f.bytes) (filler ∷ f.back)))))
      (first_filler d plain)

-- ---- a payload is the layout's

-- what is filled to 184 bytes
filled_is : (c : Cells) (k : ℕ) → length (c ++ replicate k filler) ≡ 184 → c ++ replicate k filler ≡ filled_up c
filled_is c k e =
    let long : length (replicate {A = Cell Place} k filler) ≡ k = length-replicate k filler in
    let same : k ≡ 184 - length c = omega (arith, e, length-append c (replicate k filler), long) in
    ap (λ (n : ℕ). c ++ replicate n filler) same

length_shape : (l : List Place) (k : ℕ) (d : Cells) → d ≡ map byte l ++ replicate k filler → length d ≡ length l + k
length_shape l k d e =
    let long : length (replicate {A = Cell Place} k filler) ≡ k = length-replicate k filler in
    let same : length (map {B = Cell Place} byte l) ≡ length l = length-map l byte in
    omega (arith, ap length e, length-append (map byte l) (replicate k filler), same, long)

module _ (bytes : List Place) (a : Ahead) (h : AheadOf bytes a) (d : Cells) where
  unflagged_is : (l more : List Place) (k : ℕ) → bytes ≡ l ++ more → d ≡ map byte l ++ replicate k filler
      → length d ≡ 184 → least 184 a.left ≡ length l → (waits a.waiting ≡ true → 183 ≤ a.left)
      → record { start = false; cells = d } ≡ payload_of (turn_of a) bytes
  unflagged_is l more k e f long m w =
      let cut : l ≡ take (least 184 a.left) bytes =
      sym (ap (take (least 184 a.left)) e ∙ take_at l more (least 184 a.left) (sym m)) in
      let cells : d ≡ filled_up (map byte (take (least 184 a.left) bytes)) =
      f ∙ filled_is (map byte l) k (ap length (sym f) ∙ long) ∙ ap (λ (z : List Place). filled_up (map byte z)) cut in
      (λ i. record { start = false; cells = cells i }) ∙ ap (λ (t : Turn). payload_of t bytes) (sym (turn_unflagged a w))

  flagged_is : (l more : List Place) (k : ℕ) → bytes ≡ l ++ more → d ≡ map byte l ++ replicate k filler
      → length d ≡ 183 → least 183 (bytes_ahead a) ≡ length l → waits a.waiting ≡ true
      → (to : ℕ) → to ≡ a.left → to < 183
      → record { start = true; cells = pointer to ∷ d } ≡ payload_of (turn_of a) bytes
  flagged_is l more k e f long m w to at few =
      let n : ℕ = least 183 (bytes_ahead a) in
      let cut : l ≡ take n bytes = sym (ap (take n) e ∙ take_at l more n (sym m)) in
      let filled : pointer to ∷ d ≡ filled_up (pointer to ∷ map byte l) =
      ap (λ (c : Cells). pointer to ∷ c) f
      ∙ filled_is (pointer to ∷ map byte l) k (ap (λ (c : Cells). suc (length c)) (sym f) ∙ ap suc long) in
      let cells : pointer to ∷ d ≡ filled_up (pointer a.left ∷ map byte (take n bytes)) =
      filled ∙ (λ i. filled_up (pointer (at i) ∷ map byte (cut i))) in
      (λ i. record { start = true; cells = cells i })
      ∙ ap (λ (t : Turn). payload_of t bytes) (sym (turn_flagged a w (omega (arith, at, few))))

  -- ---- without the flag

  left_at_least : (l more : List Place) → bytes ≡ l ++ more → Each NoBegin l → length l ≤ a.left
  left_at_least l more e x =
      omega (arith, within_rest l more h.rest h.wholes h.are_whole x (sym e ∙ h.are), h.left_is)

  no_begin : (l : List Place) (k : ℕ) → Each BeginsNothing d → d ≡ map byte l ++ replicate k filler → Each NoBegin l
  no_begin l k x e = subst (Each NoBegin) (ap bytes_in e ∙ bytes_in_filled l k) (begins_none d x)

  -- where the section begun has all bytes ahead, none waits
  none_waiting : bytes_ahead a ≤ a.left → waits a.waiting ≡ true → ⊥
  none_waiting k w =
      omega (
        arith,
        k,
        ap sum h.waiting_are,
        some_waits a.left h.wholes h.are_whole (ap waits h.waiting_are ∙ w),
      )

  only_unflagged : Each BeginsNothing d → length d ≡ 184 → Ends false bytes d
      → record { start = false; cells = d } ≡ payload_of (turn_of a) bytes
  only_unflagged x long (full l more e f) =
      let shape : d ≡ map byte l ++ replicate 0 filler = f ∙ sym (append-nil (map byte l)) in
      let size : length l ≡ 184 = omega (arith, length_shape l 0 d shape, long) in
      let left : 184 ≤ a.left = omega (arith, size, left_at_least l more e (no_begin l 0 x shape)) in
      unflagged_is l more 0 e shape long ((least_law 184 a.left).is_first left ∙ sym size) (λ w. omega (arith, left))
  only_unflagged x long (all k f) =
      let e : bytes ≡ bytes ++ [] = sym (append-nil bytes) in
      let size : length bytes + k ≡ 184 = sym (length_shape bytes k d f) ∙ long in
      let sum_is_lem = ahead_length bytes a h in
      let left : length bytes ≤ a.left = left_at_least bytes [] e (no_begin bytes k x f) in
      let same : a.left ≡ length bytes = omega (arith, sum_is_lem, left) in
      unflagged_is bytes [] k e f long ((least_law 184 a.left).is_second (omega (arith, same, size)) ∙ same)
      (λ w. absurd (none_waiting (omega (arith, sum_is_lem, left)) w))
  only_unflagged x long (one l more others end e f g z w) =
      let size : length l ≡ 183 = omega (arith, length_shape l 1 d f, long) in
      let few : length l ≤ a.left = left_at_least l more e (no_begin l 1 x f) in
      let cut : length l ≡ length others + 1 = ap length g ∙ length-append others (end ∷ []) in
      let last : suc (length others) ≡ length h.rest =
      ends_at others end more h.rest (flatten h.wholes) h.is_tail
      (ap (λ (l : List Place). l ++ more) (sym g) ∙ sym e ∙ h.are) (omega (arith, few, cut, h.left_is)) z in
      let left : a.left ≡ 183 = omega (arith, size, cut, last, h.left_is) in
      unflagged_is l more 1 e f long ((least_law 184 a.left).is_second (omega (arith, left)) ∙ left ∙ sym size)
      (λ w. omega (arith, left))

  -- ---- with the flag

  -- the pointer leads behind the bytes left, and a section waits
  leads_behind : (l more : List Place) (k : ℕ) → bytes ≡ l ++ more → d ≡ map byte l ++ replicate k filler
      → (front : Cells) (first : Place) (back : Cells) → d ≡ front ++ (byte first ∷ back)
      → Each BeginsNothing front → first.before ≡ 0 → (length front ≡ a.left) × (waits a.waiting ≡ true)
  leads_behind l more k e f front first back g x z =
      let same : length (bytes_in front) ≡ length front = all_bytes_before front first back l k (sym g ∙ f) in
      let are : bytes_in front ++ (first ∷ bytes_in back) ≡ l =
      sym (bytes_in_append front (byte first ∷ back)) ∙ ap bytes_in (sym g ∙ f) ∙ bytes_in_filled l k in
      let r = begins_at (bytes_in front) first (bytes_in back ++ more) h.rest h.wholes h.is_tail h.are_whole
      (begins_none front x) z
      (sym (append_assoc (bytes_in front) (first ∷ bytes_in back) more) ∙ ap (λ (m : List Place). m ++ more) are
      ∙ sym e ∙ h.are) in
      (sym same ∙ r.0 ∙ h.left_is, ap waits (sym h.waiting_are) ∙ r.1)

  only_flagged : (to : ℕ) (front : Cells) (first : Place) (back : Cells) → d ≡ front ++ (byte first ∷ back)
      → length front ≡ to → Each BeginsNothing front → first.before ≡ 0 → length d ≡ 183 → Ends true bytes d
      → record { start = true; cells = pointer to ∷ d } ≡ payload_of (turn_of a) bytes
  only_flagged to front first back g leads x z long (full l more e f) =
      let shape : d ≡ map byte l ++ replicate 0 filler = f ∙ sym (append-nil (map byte l)) in
      let size : length l ≡ 183 = omega (arith, length_shape l 0 d shape, long) in
      let r = leads_behind l more 0 e shape front first back g x z in
      let there : 183 ≤ bytes_ahead a = omega (arith, size, ahead_length bytes a h, ap length e, length-append l more) in
      flagged_is l more 0 e shape long ((least_law 183 (bytes_ahead a)).is_first there ∙ sym size) r.1 to
      (sym leads ∙ r.0) (omega (arith, leads, long, ap length g, length-append front (byte first ∷ back)))
  only_flagged to front first back g leads x z long (all k f) =
      let e : bytes ≡ bytes ++ [] = sym (append-nil bytes) in
      let size : length bytes + k ≡ 183 = sym (length_shape bytes k d f) ∙ long in
      let r = leads_behind bytes [] k e f front first back g x z in
      let same = ahead_length bytes a h in
      let few : bytes_ahead a ≤ 183 = omega (arith, same, size) in
      flagged_is bytes [] k e f long ((least_law 183 (bytes_ahead a)).is_second few ∙ sym same) r.1 to
      (sym leads ∙ r.0) (omega (arith, leads, long, ap length g, length-append front (byte first ∷ back)))
  only_flagged to front first back g leads x z long (one l more others end e f o w s) = absurd (true≢false s)

-- ---- payload after payload

only_first : (bytes : List Place) (a : Ahead) → AheadOf bytes a
    → (start : Bool) (cells : Cells) (ps : List (Payload Place)) → length cells ≡ 184
    → bytes_in cells ++ rest_of ps ≡ bytes → Each (λ p. bytes_in p.cells ≡ [] → ⊥) ps
    → FlagBy start cells → FillersIn start cells ps
    → record { start = start; cells = cells } ≡ payload_of (turn_of a) bytes
only_first bytes a h false cells ps long laid busy flag fills =
    only_unflagged bytes a h cells flag long
    (ends_by false bytes [] cells ps refl (each_map BeginsNothing NoPointer no_pointer_cell cells flag) laid busy fills)
only_first bytes a h true cells ps long laid busy flag fills =
    let d : Cells = flag.front ++ (byte flag.first ∷ flag.back) in
    let e : cells ≡ pointer flag.to ∷ d = flag.whole in
    let plain : Each NoPointer d =
    each_append NoPointer flag.front (byte flag.first ∷ flag.back)
    (each_map BeginsNothing NoPointer no_pointer_cell flag.front flag.none_before) (tt, flag.no_other) in
    let ends : Ends true bytes d =
    ends_by true bytes (pointer flag.to ∷ []) d ps refl plain
    (subst (λ (c : Cells). bytes_in c ++ rest_of ps ≡ bytes) e laid) busy
    (subst (λ (c : Cells). FillersIn true c ps) e fills) in
    (λ i. record { start = true; cells = e i })
    ∙ only_flagged bytes a h d flag.to flag.front flag.first flag.back refl flag.leads
    flag.none_before flag.begins (omega (arith, long, ap length e)) ends

some_length : {A : Type 0} (l : List A) → (l ≡ [] → ⊥) → 0 < length l
some_length [] f = absurd (f refl)
some_length (x ∷ l) f = omega arith

pub only_payloads : (ps : List (Payload Place)) (bytes : List Place) (a : Ahead) → AheadOf bytes a
    → Each (λ p. length p.cells ≡ 184) ps → rest_of ps ≡ bytes → Each (λ p. bytes_in p.cells ≡ [] → ⊥) ps
    → Each (λ p. FlagBy p.start p.cells) ps → FillerOnly ps → ps ≡ laid_out (turns_from a) bytes
unfolding flatten
only_payloads [] bytes a h long laid busy flags fills =
    let none : bytes_ahead a ≡ 0 = sym (ahead_length bytes a h) ∙ ap length (sym laid) in
    ap (λ (ts : List Turn). laid_out ts bytes) (sym (turns_stop a none))
only_payloads (p ∷ ps) bytes a h long laid busy flags fills =
    let some : 0 < bytes_ahead a =
    omega (
      arith,
      some_length (bytes_in p.cells) busy.0,
      ap length laid,
      length-append (bytes_in p.cells) (rest_of ps),
      ahead_length bytes a h,
    ) in
    let first : p ≡ payload_of (turn_of a) bytes =
    only_first bytes a h p.start p.cells ps long.0 laid busy.1 flags.0 fills.0 in
    let n : ℕ = (turn_of a).bytes in
    let taken : bytes_in p.cells ≡ take n bytes =
    ap (λ (q : Payload Place). bytes_in q.cells) first ∙ payload_bytes (turn_of a) bytes in
    let more : rest_of ps ≡ drop n bytes =
    append_cancel_left (take n bytes) (rest_of ps) (drop n bytes)
    (ap (λ (l : List Place). l ++ rest_of ps) (sym taken) ∙ laid ∙ sym (take-append-drop n bytes)) in
    let others : ps ≡ laid_out (turns_from (behind a)) (drop n bytes) =
    only_payloads ps (drop n bytes) (behind a) (ahead_next bytes a h) long.1 more busy.1 flags.1 fills.1 in
    (λ i. first i ∷ others i) ∙ ap (λ (ts : List Turn). laid_out ts bytes) (sym (turns_on a some))

-- ---- the packets

pub only_layout : (pid counter : ℕ) (sections packets : List (List ℕ)) → Each (λ s. 0 < length s) sections
    → Obeys pid counter sections packets → packets ≡ packets_of pid counter sections
only_layout pid counter sections packets x o =
    let a : Ahead = unbegun (map length sections) in
    let are : o.payloads ≡ laid_out (turns_from a) (flatten (placed sections)) =
    only_payloads o.payloads (flatten (placed sections)) a (ahead_first sections x) o.long o.laid_once
    o.not_idle o.flags o.fillers in
    all_headed_only pid counter o.payloads packets o.headed
    ∙ ap (λ (ps : List (Payload Place)). packets_from pid counter (map valued ps)) are
    ∙ ap (packets_from pid counter) (valued_layout sections)

pub rule_exactly : RuleExactly
rule_exactly pid counter sections packets k j x = (
  only_layout pid counter sections packets x,
  λ e. subst (Obeys pid counter sections) (sym e) (our_layout pid counter sections k j x),
)
