-- What is read in a section's head stands there: the version and current_next_indicator, and the ids of a
-- sub-table.
use Prim.Native.Nat.{ℕ, ◌+◌, ◌*◌, ◌/◌, ◌%◌}
use mathlib.Core.Path.{◌≡◌, refl, sym, ap, ◌∙◌, subst}
use mathlib.Core.Bool.{Bool, true, false}
use mathlib.Core.Logic.{◌↔◌}
use mathlib.Core.List.{List}
use native.Mathlib.Omega.{arith}
use lib.ListN.{get_or}
use borrow.Author.Tests.{eqb-true, eqb-false, ne_eqb}
use Rattle.wire.specs.Number.{number_at}
use Rattle.tables.specs.Tables.{SDT, EIT, row_of}
use Rattle.head.specs.Head.{version_in, is_current}
use Rattle.head.specs.SubTable.{is_sdt, is_eit, ids_that_count, network_in, sub_table_of, compared, same_ids}
use Rattle.head.specs.Stands.{pair, Versioned, OfSubTable}
use Rattle.head.proofs.Ids.{same_ids_same, same_same_ids}
use Rattle.head.proofs.TableIds.{sdt_ids, eit_ids}
use Rattle.head.specs.declared.SubTable.{SubTable}

-- ---- version_number, current_next_indicator

bits : (b : ℕ) → b ≡ b / 64 * 64 + b / 2 % 32 * 2 + b % 2
bits b = omega arith

pub versioned : (s : List ℕ) → Versioned s (version_in s) (get_or s 5 0 % 2)
unfolding version_in
versioned s = record {
  reserved = get_or s 5 0 / 64;
  byte = bits (get_or s 5 0);
  five_bits = omega arith;
  one_bit = omega arith;
}

pub version_is : (s : List ℕ) (v c : ℕ) → Versioned s v c → (version_in s ≡ v) × (get_or s 5 0 % 2 ≡ c)
unfolding version_in
version_is s v c x = (omega (arith, x.byte, x.five_bits, x.one_bit), omega (arith, x.byte, x.one_bit))

pub current_is : (s : List ℕ) → is_current s ≡ true → Versioned s (version_in s) 1
unfolding is_current
current_is s h = subst (Versioned s (version_in s)) (eqb-true (get_or s 5 0 % 2) 1 h) (versioned s)

pub not_current_is : (s : List ℕ) → is_current s ≡ false → Versioned s (version_in s) 0
unfolding is_current
not_current_is s h =
    let n = eqb-false (get_or s 5 0 % 2) 1 h in
    let e : get_or s 5 0 % 2 ≡ 0 = omega (arith, n) in
    subst (Versioned s (version_in s)) e (versioned s)

pub is_not_current : (s : List ℕ) (v : ℕ) → Versioned s v 0 → is_current s ≡ false
unfolding is_current
is_not_current s v x = let e = (version_is s v 0 x).1 in ne_eqb (get_or s 5 0 % 2) 1 (λ h. omega arith)

-- ---- the ids of a sub-table

pair_is : (s : List ℕ) (i : ℕ) → number_at 2 s i ≡ pair s i
unfolding number_at
pair_is s i = refl

eit_not_sdt : (id : ℕ) → is_eit id ≡ true → is_sdt id ≡ false
eit_not_sdt id h = let e = eqb-true (row_of id) EIT h in ne_eqb (row_of id) SDT (λ x. omega arith)

module _ (id e t n : ℕ) where
  counted_table : (ids_that_count id e t n).table_id ≡ id
  unfolding ids_that_count
  counted_table = go (is_sdt id) (is_eit id) refl refl
    where
      go : (a b : Bool) → is_sdt id ≡ a → is_eit id ≡ b → (ids_that_count id e t n).table_id ≡ id
      go true b p q = rw p
      go false true p q = rw (p, q)
      go false false p q = rw (p, q)

  counted_extension : (ids_that_count id e t n).extension ≡ e
  unfolding ids_that_count
  counted_extension = go (is_sdt id) (is_eit id) refl refl
    where
      go : (a b : Bool) → is_sdt id ≡ a → is_eit id ≡ b → (ids_that_count id e t n).extension ≡ e
      go true b p q = rw p
      go false true p q = rw (p, q)
      go false false p q = rw (p, q)

  counted_sdt : is_sdt id ≡ true → (ids_that_count id e t n).original_network_id ≡ n
  unfolding ids_that_count
  counted_sdt p = rw p

  counted_eit : is_eit id ≡ true
      → ((ids_that_count id e t n).transport_stream_id ≡ t) × ((ids_that_count id e t n).original_network_id ≡ n)
  unfolding ids_that_count
  counted_eit q = rw (eit_not_sdt id q, q) (refl, refl)

-- what is compared is of the table that is kept
pub compared_table : (k : SubTable) → (compared k).table_id ≡ k.table_id
unfolding compared
compared_table k = counted_table k.table_id k.extension k.transport_stream_id k.original_network_id

counted_same : (id e t n e' t' n' : ℕ) → e ≡ e' → (is_sdt id ≡ true → n ≡ n') → (is_eit id ≡ true → (t ≡ t') × (n ≡ n'))
    → ids_that_count id e t n ≡ ids_that_count id e' t' n'
unfolding ids_that_count
counted_same id e t n e' t' n' x y z = go (is_sdt id) (is_eit id) refl refl
  where
    go : (a b : Bool) → is_sdt id ≡ a → is_eit id ≡ b → ids_that_count id e t n ≡ ids_that_count id e' t' n'
    go true b p q = rw (p, x, y p)
    go false true p q = rw (p, q, x, (z q).0, (z q).1)
    go false false p q = rw (p, q, x)

network_sdt : (s : List ℕ) → is_sdt (get_or s 0 0) ≡ true → network_in s ≡ pair s 8
unfolding network_in
network_sdt s h = rw h (pair_is s 8)

network_eit : (s : List ℕ) → is_eit (get_or s 0 0) ≡ true → network_in s ≡ pair s 10
unfolding network_in
network_eit s h = rw (eit_not_sdt (get_or s 0 0) h) (pair_is s 10)

module _ (k : SubTable) (s : List ℕ) where
  ids_stand : compared k ≡ sub_table_of s → OfSubTable k s
  unfolding compared sub_table_of
  ids_stand e =
      let id = get_or s 0 0 in
      let table : k.table_id ≡ id =
      sym (counted_table k.table_id k.extension k.transport_stream_id k.original_network_id)
      ∙ ap (λ (x : SubTable). x.table_id) e
      ∙ counted_table id (number_at 2 s 3) (number_at 2 s 8) (network_in s) in
      let same = ap (λ x. ids_that_count x k.extension k.transport_stream_id k.original_network_id)
      (sym table)
      ∙ e in
      record {
        table = table;
        extension =
            sym (counted_extension id k.extension k.transport_stream_id k.original_network_id)
            ∙ ap (λ (x : SubTable). x.extension) same
            ∙ counted_extension id (number_at 2 s 3) (number_at 2 s 8) (network_in s) ∙ pair_is s 3;
        sdt = λ h.
            let is = (sdt_ids id).1 h in
            sym (counted_sdt id k.extension k.transport_stream_id k.original_network_id is)
            ∙ ap (λ (x : SubTable). x.original_network_id) same
            ∙ counted_sdt id (number_at 2 s 3) (number_at 2 s 8) (network_in s) is ∙ network_sdt s is;
        eit = λ h.
            let is = (eit_ids id).1 h in
            let kept = counted_eit id k.extension k.transport_stream_id k.original_network_id is in
            let read = counted_eit id (number_at 2 s 3) (number_at 2 s 8) (network_in s) is in (
              sym kept.0 ∙ ap (λ (x : SubTable). x.transport_stream_id) same ∙ read.0 ∙ pair_is s 8,
              sym kept.1 ∙ ap (λ (x : SubTable). x.original_network_id) same ∙ read.1 ∙ network_eit s is,
            );
      }

  pub ids_compared : OfSubTable k s → compared k ≡ sub_table_of s
  unfolding compared sub_table_of
  ids_compared x =
      let id = get_or s 0 0 in
      ap (λ i. ids_that_count i k.extension k.transport_stream_id k.original_network_id) x.table
      ∙ counted_same id k.extension k.transport_stream_id k.original_network_id (number_at 2 s 3)
      (number_at 2 s 8) (network_in s)
      (x.extension ∙ sym (pair_is s 3))
      (λ h. x.sdt ((sdt_ids id).0 h) ∙ sym (network_sdt s h))
      (λ h. let y = x.eit ((eit_ids id).0 h) in (y.0 ∙ sym (pair_is s 8), y.1 ∙ sym (network_eit s h)))

  -- the test: the same sub-table
  pub of_sub_table : same_ids (compared k) (sub_table_of s) ≡ true ↔ OfSubTable k s
  of_sub_table = (
    λ h. ids_stand (same_ids_same (compared k) (sub_table_of s) h),
    λ x. same_same_ids (compared k) (sub_table_of s) (ids_compared x),
  )
