-- One turn of the writer beside one payload of the collector: what the payload tells, and where both stand behind it.
use mathlib.Core.Path.{◌≡◌, refl, sym, ap, ◌∙◌, subst}
use mathlib.Core.Bool.{Bool, true, false}
use mathlib.Core.List.{List, [], ◌∷◌, ◌++◌, append_assoc, append-nil, map, flatten}
use mathlib.Core.Logic.{⊎_elim}
use Prim.Native.Nat.{ℕ, ◌+◌, ◌-◌, ◌≤◌, ◌<◌}
use native.Mathlib.Omega.{arith}
use lib.ListN.{length, take, drop, get_or, replicate, length-append, length-drop, take-append-drop}
use lib.Seq.{length-take-le, take-append-le, take-append-add, take-append_seam, drop-append-le, drop-append-add, drop-append_seam}
use Rattle.wire.specs.Each.{Each}
use Rattle.collector.specs.Rules.{Kind, holding, plain, payload}
use Rattle.collector.proofs.ByteRuns.{lt_or_ge}
use Rattle.collector.proofs.SectionLoop.{Apart}
use Rattle.writer.specs.Layout.{bytes_ahead, opened, Turn, least, waits, turn_of, payload_of}
use Rattle.writer.specs.Packets.{value_of}
use Rattle.writer.proofs.TurnLaws.{least_law, Unflagged, TurnIs, flagged, unflagged, turn_is, opened_here}
use Rattle.writer.proofs.SizeLaws.{sum_long}
use Rattle.writer.proofs.PayloadLaws.{pointer_of, fillers, payload_bytes}
use Rattle.reverse.specs.Sent.{Sendable}
use Rattle.reverse.proofs.CutSections.{Begun, none, part, unended, ahead_of, unended_first, begun_some, begun_none, cut_at}
use Rattle.reverse.proofs.Carries.{Tells, flagged_tells, going_tells, ending_tells}

-- ---- the bytes of a payload

-- the bytes of the payload, as the packet has them
abbrev pub body_of : Turn → List ℕ → List ℕ
body_of t bytes = map value_of (payload_of t bytes).cells

body_is : (t : Turn) (bytes : List ℕ)
    → body_of t bytes ≡ pointer_of t.start t.left ++ (take t.bytes bytes ++ replicate (fillers t bytes) 255)
body_is t bytes =
    payload_bytes t bytes
    ∙ append_assoc (pointer_of t.start t.left) (take t.bytes bytes) (replicate (fillers t bytes) 255)

pub body_points : (t : Turn) (bytes : List ℕ) → t.start ≡ true → get_or (body_of t bytes) 0 0 ≡ t.left
body_points t bytes e =
    ap (λ (l : List ℕ). get_or l 0 0) (body_is t bytes)
    ∙ ap (λ (b : Bool). get_or (pointer_of b t.left ++ (take t.bytes bytes ++ replicate (fillers t bytes) 255)) 0 0)
    e

-- ---- one turn

module _ (comes : List ℕ → Kind) where
  -- with h in hand, rest left of the section begun and ws waiting: the sections that end in the turn t; what is in
  -- hand, left and waiting behind it; and that the payload tells so
  pub record Step (h rest : List ℕ) (ws : List (List ℕ)) (t : Turn) : Type 0 where
    pub ended : List (List ℕ)
    pub hand : List ℕ
    pub left : List ℕ
    pub waiting : List (List ℕ)
    pub begun : Begun hand left
    pub each_waiting : Each Sendable waiting
    pub sections_are : unended h rest ws ≡ ended ++ unended hand left waiting
    pub not_laid : drop t.bytes (rest ++ flatten ws) ≡ left ++ flatten waiting
    pub sizes : opened t.bytes (length rest) (map length ws) ≡ ahead_of left waiting
    pub tells : Tells (payload comes plain t.start (holding h) (body_of t (rest ++ flatten ws))) ended hand

  module _ (apart : Apart comes) (h rest : List ℕ) (ws : List (List ℕ)) (each : Each Sendable ws) where
    abbrev bytes : List ℕ
    bytes = rest ++ flatten ws

    abbrev all : ℕ
    all = bytes_ahead (ahead_of rest ws)

    all_long : all ≡ length rest + length (flatten ws)
    all_long = omega (arith, sum_long ws)

    bytes_long : length bytes ≡ all
    bytes_long = omega (arith, length-append rest (flatten ws), all_long)

    -- ---- with the flag

    abbrev started : ℕ → Turn
    started n = record { start = true; left = length rest; bytes = n }

    step_flagged : Begun h rest → (n : ℕ) → n ≤ all → length rest ≤ n → n ≤ 183 → (n < 183 → n ≡ all)
        → Step h rest ws (started n)
    step_flagged x n there past few full =
        let m : ℕ = n - length rest in
        let c = cut_at m ws each (omega (arith, all_long)) in
        let k : ℕ = fillers (started n) bytes in
        let both : n ≡ length rest + m = omega arith in
        let long = length-take-le n bytes (omega (arith, bytes_long)) in
        let none_left : 0 < k → length c.rest ≡ 0 = λ w.
        let whole : n ≡ all = full (omega arith) in
        omega (
          arith,
          all_long,
          ap length c.not_laid,
          length-drop m (flatten ws),
          length-append c.rest (flatten c.waiting),
        ) in
        let body : body_of (started n) bytes ≡ length rest ∷ (rest ++ (take m (flatten ws) ++ replicate k 255)) =
        body_is (started n) bytes
        ∙ ap (λ (z : ℕ). length rest ∷ (take z bytes ++ replicate k 255)) both
        ∙ ap (λ (z : List ℕ). length rest ∷ (z ++ replicate k 255)) (take-append-add rest (flatten ws) m)
        ∙ ap (λ (z : List ℕ). length rest ∷ z) (append_assoc rest (take m (flatten ws)) (replicate k 255)) in
        record {
          ended = unended h rest [] ++ c.ended;
          hand = c.h;
          left = c.rest;
          waiting = c.waiting;
          begun = c.begun;
          each_waiting = c.each_waiting;
          sections_are =
              unended_first h rest ws
              ∙ ap (λ (z : List (List ℕ)). unended h rest [] ++ z) c.sections_are
              ∙ sym (append_assoc (unended h rest []) c.ended (unended c.h c.rest c.waiting));
          not_laid = ap (λ (z : ℕ). drop z bytes) both ∙ drop-append-add rest (flatten ws) m ∙ c.not_laid;
          sizes = ap (λ (z : ℕ). opened z (length rest) (map length ws)) both ∙ c.sizes (length rest);
          tells =
              subst
              (λ (z : List ℕ). Tells (payload comes plain true (holding h) z) (unended h rest [] ++ c.ended) c.h)
              (sym body)
              (flagged_tells comes apart x c k (λ w. begun_none c.begun (none_left w)));
        }

  -- ---- without it

  abbrev unstarted : List ℕ → ℕ → Turn
  unstarted rest n = record { start = false; left = length rest; bytes = n }

  module _ (apart : Apart comes) (b : ℕ) (h rest : List ℕ) (ws : List (List ℕ)) (each : Each Sendable ws)
      (x : Sendable ((b ∷ h) ++ rest)) where
    abbrev behind : List ℕ
    behind = rest ++ flatten ws

    -- the section begun does not end
    step_going : (n : ℕ) → n < length rest → n ≡ 184 → Step (b ∷ h) rest ws (unstarted rest n)
    step_going n k full =
        let cut : take n rest ++ drop n rest ≡ rest = take-append-drop n rest in
        let long = length-take-le n behind (omega (arith, length-append rest (flatten ws))) in
        let none_left : fillers (unstarted rest n) behind ≡ 0 = omega arith in
        let body : body_of (unstarted rest n) behind ≡ take n rest =
        body_is (unstarted rest n) behind
        ∙ ap (λ (z : ℕ). take n behind ++ replicate z 255) none_left
        ∙ append-nil (take n behind)
        ∙ take-append-le n rest (flatten ws) (omega arith) in
        let more : (b ∷ h) ++ (take n rest ++ drop n rest) ≡ (b ∷ h) ++ rest = ap (λ (z : List ℕ). (b ∷ h) ++ z) cut in
        let sends : Sendable ((b ∷ h) ++ (take n rest ++ drop n rest)) = subst Sendable (sym more) x in
        let some : 0 < length (drop n rest) = omega (arith, length-drop n rest) in
        let joined : ((b ∷ h) ++ take n rest) ++ drop n rest ≡ (b ∷ h) ++ (take n rest ++ drop n rest) =
        append_assoc (b ∷ h) (take n rest) (drop n rest) in
        let left_is : length rest - n ≡ length (drop n rest) = sym (length-drop n rest) in
        record {
          ended = [];
          hand = (b ∷ h) ++ take n rest;
          left = drop n rest;
          waiting = ws;
          begun =
              begun_some ((b ∷ h) ++ take n rest) (drop n rest) (omega arith) some (subst Sendable (sym joined) sends);
          each_waiting = each;
          sections_are = ap (λ (z : List ℕ). z ∷ ws) (sym (joined ∙ more));
          not_laid = drop-append-le n rest (flatten ws) (omega arith);
          sizes =
              opened_here n (length rest) (map length ws) (omega arith)
              ∙ (λ i. record { left = left_is i; waiting = map length ws });
          tells =
              subst
              (λ (z : List ℕ). Tells (payload comes plain false (holding (b ∷ h)) z) [] ((b ∷ h) ++ take n rest))
              (sym body)
              (going_tells comes apart b h (take n rest) (drop n rest) some sends);
        }

    -- it ends
    step_ending : (n : ℕ) → n ≡ length rest → 0 < length rest → Step (b ∷ h) rest ws (unstarted rest n)
    step_ending n full some =
        let k : ℕ = fillers (unstarted rest n) behind in
        let body : body_of (unstarted rest n) behind ≡ rest ++ replicate k 255 =
        body_is (unstarted rest n) behind
        ∙ ap (λ (z : ℕ). take z behind ++ replicate k 255) full
        ∙ ap (λ (z : List ℕ). z ++ replicate k 255) (take-append_seam rest (flatten ws)) in
        let none_left : length rest - n ≡ 0 = omega arith in
        record {
          ended = ((b ∷ h) ++ rest) ∷ [];
          hand = [];
          left = [];
          waiting = ws;
          begun = none;
          each_waiting = each;
          sections_are = refl;
          not_laid = ap (λ (z : ℕ). drop z behind) full ∙ drop-append_seam rest (flatten ws);
          sizes =
              opened_here n (length rest) (map length ws) (omega arith)
              ∙ (λ i. record { left = none_left i; waiting = map length ws });
          tells =
              subst
              (λ (z : List ℕ). Tells (payload comes plain false (holding (b ∷ h)) z) (((b ∷ h) ++ rest) ∷ []) [])
              (sym body)
              (ending_tells comes apart b h rest (replicate k 255) some x);
        }

  -- nothing begun, and without the flag: nothing is ahead
  none_waits : (ws : List (List ℕ)) → (waits (map length ws) ≡ true → 183 ≤ 0) → 0 < bytes_ahead (ahead_of [] ws) → ⊥
  none_waits [] f k = omega arith
  none_waits (s ∷ ws) f k = omega (arith, f refl)

  step_unflagged : Apart comes → {h rest : List ℕ} → Begun h rest → (ws : List (List ℕ)) → Each Sendable ws
      → 0 < bytes_ahead (ahead_of rest ws) → Unflagged (ahead_of rest ws) (turn_of (ahead_of rest ws))
      → Step h rest ws (unstarted rest (least 184 (length rest)))
  step_unflagged apart none ws each k u = absurd (none_waits ws u.full k)
  step_unflagged apart (part b h c rest x) ws each k u =
      let l = least_law 184 (length (c ∷ rest)) in
      let n : ℕ = least 184 (length (c ∷ rest)) in
      ⊎_elim
      (λ w. step_going apart b h (c ∷ rest) ws each x n w
      (l.is_first
      (⊎_elim (λ v. omega (arith, l.is_second (omega arith))) (λ v. v) (lt_or_ge (length (c ∷ rest)) 184))))
      (λ w. step_ending apart b h (c ∷ rest) ws each x n (omega (arith, l.second)) (omega arith))
      (lt_or_ge n (length (c ∷ rest)))

  step_by : Apart comes → {h rest : List ℕ} → Begun h rest → (ws : List (List ℕ)) → Each Sendable ws
      → 0 < bytes_ahead (ahead_of rest ws) → TurnIs (ahead_of rest ws) (turn_of (ahead_of rest ws))
      → Step h rest ws (turn_of (ahead_of rest ws))
  step_by apart {h} {rest} x ws each k (flagged f) =
      let all : ℕ = bytes_ahead (ahead_of rest ws) in
      let l = least_law 183 all in
      let n : ℕ = least 183 all in
      let few = f.few in
      subst (Step h rest ws) (sym f.is)
      (step_flagged apart h rest ws each x n l.second
      (⊎_elim (λ w. omega (arith, l.is_second (omega arith))) (λ w. omega (arith, l.is_first w)) (lt_or_ge all 183))
      l.first
      (λ w. l.is_second (⊎_elim (λ v. omega arith) (λ v. omega (arith, l.is_first v)) (lt_or_ge all 183))))
  step_by apart {h} {rest} x ws each k (unflagged u) =
      subst (Step h rest ws) (sym u.is) (step_unflagged apart x ws each k u)

  -- while bytes are ahead
  pub step : Apart comes → {h rest : List ℕ} → Begun h rest → (ws : List (List ℕ)) → Each Sendable ws
      → 0 < bytes_ahead (ahead_of rest ws) → Step h rest ws (turn_of (ahead_of rest ws))
  step apart {h} {rest} x ws each k = step_by apart x ws each k (turn_is (ahead_of rest ws))
