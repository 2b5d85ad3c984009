-- `write_lists::rows::write` meets its contract.
use Rattle.std.specs.Prelude.{Result, Ok, Err, IsErrAnd}
use mathlib.Core.Path.{◌≡◌}
use mathlib.Core.List.{List}
use Prim.Native.Nat.{ℕ, ◌+◌, ◌*◌, ◌≤◌}
use native.Mathlib.Omega.{arith}
use lib.IntN.{ℤ}
use lib.ListN.{length}
use Rattle.forms.specs.Room.{put}
use Rattle.writing.specs.Written.{Writes}
use Rattle.writing.specs.declared.Refusal.{Refusal}
use Rattle.writing.specs.declared.Refusal.TheVariants.{Room, Field, Long}
use Rattle.writing.proofs.Answers.{room_refused, field-outside, body-long, written}
use Rattle.write_lists.specs.Inner.Kinds.{item_size, list_written, list_bytes, Ready, Counted}
use Rattle.write_lists.specs.declared.kinds.Kind.{Kind}
use Rattle.write_lists.proofs.RowLaws.{items_long}
use Rattle.write_lists.proofs.rows.write.Goals as goal

module _ (k : Kind) (zs : List ℤ) (o : List ℕ) (room : 257 ≤ length o) where
  refuses : (e : Refusal) → Counted k zs (Err e) → Writes (list_written k zs) o (Err e) o
  refuses Room h = absurd h
  refuses Field h = field-outside (list_written k zs) o room h
  refuses Long h = body-long (list_written k zs) o room h

  handed_on : (e : Refusal) → Counted k zs (Err e) → (q : Result ℕ Refusal) → IsErrAnd q (λ r. r ≡ e)
      → Writes (list_written k zs) o q o
  handed_on e h (Err r) same = rw same (refuses e h)
  handed_on e h (Ok n) same = absurd same

  wrote : {n r : ℕ} {o' : List ℕ} → Ready k zs n → (r ≡ 2 + item_size k * n) × (o' ≡ put o 0 (list_bytes k n zs))
      → Writes (list_written k zs) o (Ok r) o'
  wrote {n} {r} {o'} ready h =
      let size : r ≡ length (list_bytes k n zs) = omega (arith, items_long k n zs ready.are, h.0) in
      rw size (written (list_written k zs) o room (list_bytes k n zs) o' ready.is h.1)

pub returns-in_err-room_for : goal.returns-in_err-room_for
returns-in_err-room_for c = room_refused _ _ c.in_err-room_for.ensures _ c.from_residual.ensures.1

pub put_list-requires : goal.put_list-requires
put_list-requires c = (omega arith, c.in_ok-n.ensures)

pub returns-in_err-n : goal.returns-in_err-n
returns-in_err-n c = handed_on _ _ _ (omega arith) _ c.in_err-n.ensures _ c.from_residual-in_err-n.ensures.1

pub returns : goal.returns
returns c = wrote _ _ _ (omega arith) c.in_ok-n.ensures c.put_list.ensures
