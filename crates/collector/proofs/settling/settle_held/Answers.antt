-- `collector::settling::settle_held` meets its contract: the section stands in the hold while it is judged, and what stood
-- behind it is put back.
use Rattle.std.proofs.Common.{◌≡◌, ℕ, ◌+◌, ◌-◌, ◌≤◌, leb, List, ◌++◌, length, take, drop, replicate, sym, ap, ◌∙◌, append-nil, arith, length-drop, length-take-le, take_all, leb-true}
use Rattle.wire.proofs.IfLaws.{if-case}
use lib.Seq.{paste}
use Rattle.section.specs.Reading.{judged}
use Rattle.copy.specs.Laid.{laid}
use Rattle.copy.proofs.LaidLaws.{pasted_front, window_back}
use Rattle.collector.specs.Inner.Settling.{handedOut, laid_of}
use Rattle.collector.proofs.Laying.{laid_part}
use Rattle.collector.proofs.settling.settle_held.Goals as goal
use Rattle.collector.proofs.settling.settle_held.Goals.{After-laid_of-laid}

-- no more is laid than is left and has room, and no less than is asked for
within : (k left room : ℕ) → k ≤ left → k ≤ room
    → (k ≤ laid_of k left room) × (laid_of k left room ≤ left) × (laid_of k left room ≤ room)
within k left room h g =
    if-case (λ r. (k ≤ r) × (r ≤ left) × (r ≤ room)) (leb left room)
    (λ e. (h, omega arith, leb-true left room e))
    (λ _. (omega arith, h, g))

-- the window begins no later than what is laid, has the section's end and ends in the room; of what is laid the section's end is
-- a part, no more than the packet has, and all of it is in the window
record Placed (at j n k : ℕ) (hold rest : List ℕ) : Type 0 where
  before : at ≤ n
  within_window : n + k ≤ at + 224
  in_room : at + 224 ≤ length hold
  enough : k ≤ j
  there : j ≤ length rest
  laid_in : n + j ≤ at + 224

-- from where it is known how much is laid
placed : (g : After-laid_of-laid)
    → Placed g.window_at-at.result g.laid_of-laid.result g.args.n g.args.k g.args.hold.now g.args.rest.now
placed g =
    let a = g.args in
    let at = g.window_at-at.result in
    let before : at ≤ a.n = omega arith in
    let within_window : a.n + a.k ≤ at + 224 = omega arith in
    let in_room : at + 224 ≤ length a.hold.now = omega arith in
    let w = within a.k (length a.rest.now) (at + 224 - a.n) (omega arith) (omega arith) in
    record {
      before = before;
      within_window = within_window;
      in_room = in_room;
      enough = omega (arith, w, g.laid_of-laid.ensures);
      there = omega (arith, w, g.laid_of-laid.ensures);
      laid_in = omega (arith, w, g.laid_of-laid.ensures);
    }

module _ {at j n k : ℕ} {hold rest : List ℕ} (p : Placed at j n k hold rest) where
  -- what stands in the hold where the section's end is laid

  now_held : (hold' : List ℕ) → hold' ≡ laid hold n (take j rest) → take (n + k) hold' ≡ take n hold ++ take k rest
  now_held hold' e =
      ap (take (n + k)) (e ∙ laid_part hold n rest j p.there)
      ∙ pasted_front hold rest n k j (omega (arith, p.before, p.in_room, p.laid_in, p.enough)) p.enough p.there

  -- put back, the hold is as it was

  as_it_was : (hold' window : List ℕ) → hold' ≡ laid hold n (take j rest)
      → window ≡ laid (replicate 224 0) 0 (take (at + 224 - at) (drop at hold)) → laid hold' at window ≡ hold
  as_it_was hold' window e f =
      let stood : List ℕ = take 224 (drop at hold) in
      let long : length stood ≡ 224 = length-take-le 224 (drop at hold) (omega (arith, length-drop at hold, p.in_room)) in
      let size : at + 224 - at ≡ 224 = omega arith in
      let whole : 0 + length stood ≡ 224 = omega (arith, long) in
      let window_is : window ≡ take 224 stood =
      f
      ∙ ap (λ (m : ℕ). laid (replicate 224 0) 0 (take m (drop at hold))) size
      ∙ ap (λ (m : ℕ). stood ++ drop m (replicate 224 0)) whole
      ∙ append-nil stood
      ∙ sym (take_all 224 stood (omega (arith, long))) in
      ap (λ (l : List ℕ). laid l at window) (e ∙ laid_part hold n rest j p.there)
      ∙ ap (laid (paste hold n rest j) at) window_is
      ∙ laid_part (paste hold n rest j) at stood 224 (omega (arith, long))
      ∙ window_back hold at 224 n j rest p.before p.laid_in p.in_room p.there

pub lay_mostly-requires : goal.lay_mostly-requires
lay_mostly-requires c =
    let a = c.args in
    let p = placed (goal.at.lay_mostly-requires c).After-laid_of-laid in
    omega (arith, p.laid_in, p.in_room, length-take-le c.laid_of-laid.result a.rest.now p.there)

pub returns : goal.returns
returns c =
    let a = c.args in
    let p = placed (goal.at.returns c).After-laid_of-laid in
    let held = now_held p _ c.lay_mostly.ensures in
    record {
      value = c.settle-verdict.ensures.value ∙ ap judged held;
      hold_unchanged = c.lay-2.ensures ∙ as_it_was p _ _ c.lay_mostly.ensures c.lay.ensures;
      out_after = c.settle-verdict.ensures.out_after ∙ ap (handedOut a.out.now 0) held;
    }
