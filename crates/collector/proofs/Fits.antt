-- What is known of a call that is not refused: its record can stand, and rooms and packet fit it.
use Rattle.std.proofs.Common.{◌≡◌, ℕ, ◌+◌, ◌-◌, ◌<◌, ◌≤◌, Bool, true, false, not, ◌&&◌, eqb, ltb, leb, List, length, get_or, take, drop, sym, refl, ap, ◌∙◌, arith, length-drop, take-append-drop, length-take-le, ltb-false, ne_eqb, eqb-true, le-leb, leb-false}
use borrow.Author.Tests.{eqb-false, not-false}
use Rattle.wire.specs.Sections.{total_of, Unfinished}
use Rattle.packet.specs.Header.{start_flag, control, adaptation, payload_from, payload_of, pointer_of}
use Rattle.packet.specs.Refusals.{has_payload, judged}
use Rattle.packet.proofs.Table.{or_false, and_false, payload_of_lem, payload_in}
use Rattle.collector.specs.Refusals.{is_none, counter_past, held_unfit, cannot_stand, too_small}
use Rattle.collector.specs.Inner.Payload.{Fit}
use Rattle.collector.specs.declared.Record.{Record}
use Rattle.collector.proofs.ByteRuns.{total_prefix}

-- ---- a record that can stand

module _ (r : Record) (hold : List ℕ) (e : cannot_stand r hold ≡ false) where
  parts : (ltb 8191 r.pid ≡ false)
      × ((counter_past r.last ≡ false)
      × ((ltb 10 r.rejection ≡ false)
      × ((ltb 4095 r.in_hand ≡ false) × (held_unfit r.in_hand (is_none r.last) hold ≡ false))))
  unfolding cannot_stand
  parts =
      let a = or_false (ltb 8191 r.pid) _ e in
      let b = or_false (counter_past r.last) _ a.1 in
      let n = or_false (ltb 10 r.rejection) _ b.1 in
      let d = or_false (ltb 4095 r.in_hand) _ n.1 in
      (a.0, (b.0, (n.0, (d.0, d.1))))

  pub few_held : r.in_hand < 4096
  few_held = omega (arith, ltb-false 4095 r.in_hand parts.1.1.1.0)

  pub small_pid : ltb 8191 r.pid ≡ false
  small_pid = parts.0

  pub few_number : r.rejection ≤ 10
  few_number = ltb-false 10 r.rejection parts.1.1.0

  pub held_stands : r.in_hand ≤ length hold → Unfinished (take r.in_hand hold)
  held_stands w = record {
    more = λ m.
        let n : ℕ = r.in_hand in
        let long : length (take n hold) ≡ n = length-take-le n hold w in
        let same : total_of hold ≡ total_of (take n hold) =
        ap total_of (sym (take-append-drop n hold)) ∙ total_prefix (take n hold) (drop n hold) m in
        let a = or_false (ltb 0 n && is_none r.last) _ parts.1.1.1.1 in
        let b = or_false (ltb 0 n && eqb (get_or hold 0 0) 255) _ a.1 in
        let three : 3 ≤ n = omega (arith, long) in
        let d = or_false (leb (total_of hold) n) _ (and_false (leb 3 n) _ b.1 (le-leb _ _ three)) in
        (omega (arith, same, ltb-false 4096 (total_of hold) d.1), omega (arith, same, long, leb-false (total_of hold) n d.0));
  }

-- ---- what a call has once its packet is judged to carry payload

pub fit_of : (r : Record) (hold out packet : List ℕ) (from : ℕ) (start : Bool) (counter : ℕ) (splice : Bool)
    → judged (too_small (length hold) (length out)) (cannot_stand r hold) r.pid packet ≡ has_payload from start counter splice
    → Fit r.in_hand hold out packet from start
fit_of r hold out p from start counter splice e =
    let x = payload_of_lem (too_small (length hold) (length out)) (cannot_stand r hold) r.pid p from start counter splice e in
    let long : length p ≡ 188 = eqb-true _ _ (not-false _ x.passed.0) in
    let rooms = or_false (ltb (length hold) 4096) _ x.passed.1.0 in
    let big : 4096 ≤ length hold = ltb-false _ _ rooms.0 in
    let stand = x.passed.1.1.0 in
    let rest = x.passed.1.1.1.1.1.1.1 in
    let adapt = or_false (eqb (control p) 0) _ rest.0 in
    let at = payload_in p (eqb (control p) 1) refl (eqb-false _ _ adapt.0) x.has
    (or_false (eqb (control p) 3 && ltb 182 (adaptation p)) _ adapt.1).0 in
    let few = few_held r hold stand in
    record {
      few = few;
      hold_big = big;
      out_big = ltb-false _ _ rooms.1;
      from_past = omega (arith, x.at, at.0);
      from_within = omega (arith, x.at, at.1);
      long = omega arith;
      stands = held_stands r hold stand (omega arith);
      points = λ s.
          let flag : start_flag p ≡ true = sym x.flag ∙ s in
          let room : pointer_of p + 2 ≤ length (payload_of p) =
          ltb-false _ _
          (and_false (start_flag p) _
          (and_false (not (eqb (control p) 2)) _ rest.1.0 (ap not (ne_eqb _ _ x.has))) flag) in
          let there : length (payload_of p) ≡ length p - from = length-drop (payload_from p) p ∙ ap
          (λ (n : ℕ). length p - n) (sym x.at) in
          let same : pointer_of p ≡ get_or p from 0 = ap (λ (n : ℕ). get_or p n 0) (sym x.at) in
          omega (arith, room, there, same, x.at, at.1);
    }
