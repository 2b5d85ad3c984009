-- A section's sub-table is compared as it stands; and what counts as the same sub-table is the same.
use Prim.Native.Nat.{ℕ}
use mathlib.Core.Path.{◌≡◌, refl, sym, ap, ◌∙◌}
use mathlib.Core.Bool.{Bool, true, false, ◌&&◌, false≢true}
use mathlib.Core.List.{List}
use lib.ListN.{get_or}
use lib.Dec.{eqb}
use borrow.Author.Tests.{eqb-true, eq-eqb}
use Rattle.wire.specs.Number.{number_at}
use Rattle.head.specs.SubTable.{is_sdt, is_eit, ids_that_count, network_in, sub_table_of, compared, same_ids}
use Rattle.head.specs.declared.SubTable.{SubTable}

counted_twice : (id e t n : ℕ) → compared (ids_that_count id e t n) ≡ ids_that_count id e t n
unfolding compared ids_that_count
counted_twice id e t n = go (is_sdt id) (is_eit id) refl refl
  where
    go : (a b : Bool) → is_sdt id ≡ a → is_eit id ≡ b → compared (ids_that_count id e t n) ≡ ids_that_count id e t n
    go true b p q = rw (p, p)
    go false true p q = rw (p, q, p, q)
    go false false p q = rw (p, q, p, q)

pub compared_as_it_stands : (s : List ℕ) → compared (sub_table_of s) ≡ sub_table_of s
unfolding sub_table_of
compared_as_it_stands s = counted_twice (get_or s 0 0) (number_at 2 s 3) (number_at 2 s 8) (network_in s)

pub and_left : (a b : Bool) → (a && b) ≡ true → a ≡ true
and_left true b h = refl
and_left false b h = h

pub and_right : (a b : Bool) → (a && b) ≡ true → b ≡ true
and_right true b h = h
and_right false b h = absurd (false≢true h)

unfoldable ids : ℕ → ℕ → ℕ → ℕ → SubTable
ids id e t n = record { table_id = id; extension = e; transport_stream_id = t; original_network_id = n }

ids_same : {id e t n id' e' t' n' : ℕ} → id ≡ id' → e ≡ e' → t ≡ t' → n ≡ n' → ids id e t n ≡ ids id' e' t' n'
ids_same p q x y = cc

-- the test holds exactly if the ids are the same
pub same_ids_same : (a b : SubTable) → same_ids a b ≡ true → a ≡ b
unfolding same_ids ids
same_ids_same a b h =
    let h2 = and_right (eqb a.table_id b.table_id) _ h in
    let h3 = and_right (eqb a.extension b.extension) _ h2 in
    ids_same
    (eqb-true _ _ (and_left (eqb a.table_id b.table_id) _ h))
    (eqb-true _ _ (and_left (eqb a.extension b.extension) _ h2))
    (eqb-true _ _ (and_left (eqb a.transport_stream_id b.transport_stream_id) _ h3))
    (eqb-true _ _ (and_right (eqb a.transport_stream_id b.transport_stream_id) _ h3))

same_as_itself : (a : SubTable) → same_ids a a ≡ true
unfolding same_ids
same_as_itself a =
    rw (
      eq-eqb a.table_id a.table_id refl,
      eq-eqb a.extension a.extension refl,
      eq-eqb a.transport_stream_id a.transport_stream_id refl,
      eq-eqb a.original_network_id a.original_network_id refl,
    )

pub same_same_ids : (a b : SubTable) → a ≡ b → same_ids a b ≡ true
same_same_ids a b e = ap (same_ids a) (sym e) ∙ same_as_itself a
