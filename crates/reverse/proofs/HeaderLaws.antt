-- The header of the writer's packets, read back as document 01's collector reads it; and that only these four bytes are read so.
use mathlib.Core.Path.{◌≡◌, refl, ap}
use mathlib.Core.Bool.{Bool, true, false, ◌&&◌}
use mathlib.Core.List.{List, ◌++◌}
use Prim.Native.Nat.{ℕ, zero, suc, ◌+◌, ◌*◌, ◌/◌, ◌%◌, ◌≤◌, ◌<◌}
use native.Mathlib.Omega.{arith}
use lib.ListN.{length, drop, length-append}
use lib.Dec.{leb, eqb}
use borrow.Author.Tests.{leb-false, eqb-true, eqb-false, lt-leb, eq-eqb, ne_eqb}
use Rattle.std.specs.Prelude.{if◌then◌else◌}
use Rattle.packet.specs.Header.{transport_error, start_flag, pid_of, scrambling, control, counter_of, adaptation, bit_of_field, discontinuity, payload_from, payload_of}
use Rattle.writer.specs.Packets.{header_of}

-- the byte with the flags, for a PID of 13 bits
pub record FlagByte (pid : ℕ) (start : Bool) (b : ℕ) : Type 0 where
  pub no_error : leb 128 b ≡ false
  pub flag : eqb (b / 64 % 2) 1 ≡ start
  pub no_priority : b / 32 % 2 ≡ 0
  pub high : b % 32 ≡ pid / 256

pub flag_byte : (pid : ℕ) → pid ≤ 8191 → (start : Bool) → FlagByte pid start ((if start then 64 else 0) + pid / 256)
flag_byte pid k true = record {
  no_error = lt-leb 128 (64 + pid / 256) (omega arith);
  flag = eq-eqb ((64 + pid / 256) / 64 % 2) 1 (omega arith);
  no_priority = omega arith;
  high = omega arith;
}
flag_byte pid k false = record {
  no_error = lt-leb 128 (0 + pid / 256) (omega arith);
  flag = ne_eqb ((0 + pid / 256) / 64 % 2) 1 (λ w. omega arith);
  no_priority = omega arith;
  high = omega arith;
}

-- the payload begins at byte 4
pub payload_at : (x : List ℕ) → control x ≡ 1 → payload_of x ≡ drop 4 x
payload_at x e = ap (λ (t : Bool). drop (if t then 4 else 5 + adaptation x) x) (eq-eqb (control x) 1 e)

-- what is read of a header with 184 bytes behind it
module _ (pid counter : ℕ) (start : Bool) (body : List ℕ) (a-pid : pid ≤ 8191) (a-counter : counter ≤ 15) where
  abbrev packet : List ℕ
  packet = header_of pid counter start ++ body

  flags : FlagByte pid start ((if start then 64 else 0) + pid / 256)
  flags = flag_byte pid a-pid start

  pub packet_long : length body ≡ 184 → length packet ≡ 188
  packet_long e = omega (arith, length-append (header_of pid counter start) body)

  pub no_error : transport_error packet ≡ false
  no_error = flags.no_error

  pub flag_is : start_flag packet ≡ start
  flag_is = flags.flag

  pub pid_is : pid_of packet ≡ pid
  pid_is = omega (arith, flags.high)

  pub clear : scrambling packet ≡ 0
  clear = omega arith

  pub control_is : control packet ≡ 1
  control_is = omega arith

  pub counter_is : counter_of packet ≡ counter
  counter_is = omega arith

  pub from_is : payload_from packet ≡ 4
  from_is = ap (λ (z : ℕ). if eqb z 1 then 4 else 5 + adaptation packet) control_is

  pub no_bit : discontinuity packet ≡ false
  no_bit = ap (λ (z : ℕ). leb 2 z && bit_of_field packet) control_is

-- ---- and no other

pub high_bits : (a c pid : ℕ) → a * 256 + c ≡ pid → c < 256 → a ≡ pid / 256
high_bits a c pid h k = omega arith

not_one : (n : ℕ) → n < 2 → (n % 2 ≡ 1 → ⊥) → n ≡ 0
not_one zero k e = refl
not_one (suc zero) k e = absurd (e refl)
not_one (suc (suc n)) k e = absurd (omega arith)

pub flags_are : (b pid : ℕ) (start : Bool) → FlagByte pid start b → b ≡ (if start then 64 else 0) + pid / 256
flags_are b pid true f =
    let small : b < 128 = leb-false 128 b f.no_error in
    let bit : b / 64 % 2 ≡ 1 = eqb-true (b / 64 % 2) 1 f.flag in
    let one : b / 64 ≡ 1 = omega (arith, small, bit) in
    omega (arith, small, one, f.no_priority, f.high)
flags_are b pid false f =
    let small : b < 128 = leb-false 128 b f.no_error in
    let none : b / 64 ≡ 0 = not_one (b / 64) (omega (arith, small)) (eqb-false (b / 64 % 2) 1 f.flag) in
    omega (arith, small, none, f.no_priority, f.high)
