-- What sections leave in a record, one after another: the bytes of those that the judge accepts and of those that it
-- rejects, and the number of the last of these.
use mathlib.Core.Path.{◌≡◌, refl, sym, ap, ◌∙◌}
use mathlib.Core.List.{List, [], ◌∷◌, ◌++◌, map, map-id, flatten}
use Prim.Native.Nat.{ℕ, ◌+◌, ◌%◌, ◌^◌, ◌≤◌, ◌<◌}
use native.Mathlib.Omega.{arith}
use lib.ListN.{length, length-append}
use Rattle.std.specs.Prelude.{if◌then◌else◌}
use Rattle.wire.specs.Each.{Each}
use Rattle.wire.proofs.EachLaws.{each_map}
use Rattle.verdict.specs.Verdict as Verdict
use Rattle.section.specs.Reading.{judged}
use Rattle.section.proofs.Exactly.{accepted_exactly_if}
use Rattle.collector.specs.Rules.{Kind, accepted, rejected, broken, skipped, done, sameKind, plain}
use Rattle.collector.specs.Judged.{kind_said, by_judge, accepted_among, rejected_among, last_number}
use Rattle.collector.specs.Collected.{bytes_counted}
use Rattle.collector.specs.declared.Record.{Record}
use Rattle.collector.proofs.MarkLaws.{flatten_append}
use Rattle.collector.proofs.StoryLaws.{sections_more}
use Rattle.collector.proofs.Parted.{parted, last_more}
use Rattle.history.specs.Run.{Call, taken, fare_of, handed}
use Rattle.reverse.specs.FedBack.{Ready, AllAccepted, AcceptedByGrammar, Delivers}

-- ---- sections of which the judge accepts each

kind_is : (s : List ℕ) → judged s ≡ Verdict.accepted → by_judge (map plain s) ≡ accepted
kind_is s e = ap by_judge (map-id s) ∙ ap kind_said e

all_among : (sections : List (List ℕ)) → Each (λ s. judged s ≡ Verdict.accepted) sections
    → (accepted_among sections ≡ sections) × (rejected_among sections ≡ [])
all_among [] x = (refl, refl)
all_among (s ∷ sections) x =
    let more = all_among sections x.1 in
    let is = kind_is s x.0 in (
      ap (λ (k : Kind). if sameKind accepted k then s ∷ accepted_among sections else accepted_among sections) is
          ∙ ap (λ (l : List (List ℕ)). s ∷ l) more.0,
      ap (λ (k : Kind). if sameKind rejected k then s ∷ rejected_among sections else rejected_among sections) is
          ∙ more.1,
    )

pub accepted_by_grammar : AcceptedByGrammar
accepted_by_grammar sections =
    (each_map _ _ (λ s. (accepted_exactly_if s).0) sections, each_map _ _ (λ s. (accepted_exactly_if s).1) sections)

-- ---- what sections leave

pub record Leaves (sections : List (List ℕ)) (r r' : Record) : Type 0 where
  pub accepted_are : bytes_counted (done accepted) r'
      ≡ (bytes_counted (done accepted) r + length (flatten (accepted_among sections))) % 2 ^ 32
  pub rejected_are : bytes_counted (done rejected) r'
      ≡ (bytes_counted (done rejected) r + length (flatten (rejected_among sections))) % 2 ^ 32
  pub number_is : r'.rejection ≡ last_number r.rejection (rejected_among sections)
  pub none_broken : bytes_counted (done broken) r' ≡ bytes_counted (done broken) r
  pub none_skipped : bytes_counted (done skipped) r' ≡ bytes_counted (done skipped) r

-- a counter that no byte is added to stays
pub stays : (c n : ℕ) → n ≡ 0 → c < 2 ^ 32 → (c + n) % 2 ^ 32 ≡ c
stays c n e k = omega arith

pub leaves_none : (r : Record) → ((k : Kind) → bytes_counted (done k) r < 2 ^ 32) → Leaves [] r r
unfolding flatten
leaves_none r few = record {
  accepted_are = sym (stays (bytes_counted (done accepted) r) 0 refl (few accepted));
  rejected_are = sym (stays (bytes_counted (done rejected) r) 0 refl (few rejected));
  number_is = refl;
  none_broken = refl;
  none_skipped = refl;
}

-- a counter over sections and over more of them
counts_on : (k : Kind) (a c : List (List ℕ)) (n n₁ n' : ℕ) → n₁ ≡ (n + length (flatten (parted k a))) % 2 ^ 32
    → n' ≡ (n₁ + length (flatten (parted k c))) % 2 ^ 32 → n' ≡ (n + length (flatten (parted k (a ++ c)))) % 2 ^ 32
counts_on k a c n n₁ n' e w =
    let both : length (flatten (parted k (a ++ c))) ≡ length (flatten (parted k a)) + length (flatten (parted k c)) =
    ap (λ (l : List (List ℕ)). length (flatten l)) (sections_more by_judge plain k a c)
    ∙ ap length (flatten_append (parted k a) (parted k c))
    ∙ length-append (flatten (parted k a)) (flatten (parted k c)) in
    omega (arith, both, e, w)

pub leaves_more : (a c : List (List ℕ)) {r r₁ r' : Record} → Leaves a r r₁ → Leaves c r₁ r' → Leaves (a ++ c) r r'
leaves_more a c {r} {r₁} {r'} x y = record {
  accepted_are =
      counts_on accepted a c (bytes_counted (done accepted) r) (bytes_counted (done accepted) r₁)
      (bytes_counted (done accepted) r') x.accepted_are y.accepted_are;
  rejected_are =
      counts_on rejected a c (bytes_counted (done rejected) r) (bytes_counted (done rejected) r₁)
      (bytes_counted (done rejected) r') x.rejected_are y.rejected_are;
  number_is =
      y.number_is
      ∙ ap (λ (n : ℕ). last_number n (rejected_among c)) x.number_is
      ∙ sym (last_more r.rejection (rejected_among a) (rejected_among c))
      ∙ ap (last_number r.rejection) (sym (sections_more by_judge plain rejected a c));
  none_broken = y.none_broken ∙ x.none_broken;
  none_skipped = y.none_skipped ∙ x.none_skipped;
}

-- ---- with what is handed out

pub left_by : {pid counter : ℕ} {sections : List (List ℕ)} {r r' : Record} {calls : List Call} {hold' : List ℕ}
    → Delivers pid counter sections r calls r' hold' → Leaves sections r r'
left_by d = record {
  accepted_are = d.accepted_are;
  rejected_are = d.rejected_are;
  number_is = d.number_is;
  none_broken = d.none_broken;
  none_skipped = d.none_skipped;
}

module _ (sections : List (List ℕ)) {r r' : Record} {calls : List Call} (few : bytes_counted (done rejected) r < 2 ^ 32)
    (handed_are : handed calls ≡ accepted_among sections) (x : Leaves sections r r') where
  pub if-accepted : AllAccepted sections calls r.rejected r.rejection r'
  unfolding flatten
  if-accepted each =
      let all = all_among sections each in
      record {
        handed_are = handed_are ∙ all.0;
        rejected_are =
            x.rejected_are
            ∙ stays (bytes_counted (done rejected) r) (length (flatten (rejected_among sections)))
            (ap (λ (l : List (List ℕ)). length (flatten l)) all.1) few;
        number_is = x.number_is ∙ ap (last_number r.rejection) all.1;
      }

  pub delivered : (pid counter : ℕ) {hold' : List ℕ} → Each (λ k. fare_of k.said ≡ taken) calls
      → Ready pid ((counter + length calls) % 16) r' hold' → 4096 ≤ length hold'
      → Delivers pid counter sections r calls r' hold'
  delivered pid counter each ready room = record {
    each_taken = each;
    handed_are = handed_are;
    accepted_are = x.accepted_are;
    rejected_are = x.rejected_are;
    number_is = x.number_is;
    all_accepted = if-accepted;
    none_broken = x.none_broken;
    none_skipped = x.none_skipped;
    goes_on = ready;
    room_left = room;
  }
