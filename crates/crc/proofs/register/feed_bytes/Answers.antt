-- A byte more goes in, and in the end none is left.
use mathlib.Core.Path.{sym, ap, ◌∙◌}
use Prim.Native.Nat.{ℕ, ◌+◌, ◌*◌, ◌%◌, ◌^◌}
use lib.Bits.{bit_xor}
use lib.ListN.{drop, get_or}
use Rattle.crc.specs.Crc.{feed_bytes}
use Rattle.crc.proofs.Steps.{byte_step}
use Rattle.crc.proofs.Bytes.{byte_front, none_left}
use Rattle.crc.proofs.register.feed_bytes.Goals as goal

pub loop-b-preserved : goal.loop-b-preserved
loop-b-preserved c =
    let l = c.loop-b in
    let s = c.args.s.now in
    let k : ℕ = l.b-index in
    let fed = ap (λ (x : ℕ). bit_xor x (l.v * 2 ^ 8 % 2 ^ 32)) c.times_poly.ensures
    ∙ byte_step l.v (get_or s k 0) l.auto.v-fits.fits (c.type_inv.s k).fits in
    ap (feed_bytes (drop (k + 1) s)) fed ∙ sym (byte_front s k l.v c.loop-b-test.true) ∙ l.invariant

pub returns : goal.returns
returns c = sym (none_left _ c.loop-b.b-index c.loop-b.v c.loop-b-test.false) ∙ c.loop-b.invariant
