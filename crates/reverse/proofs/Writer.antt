-- That the promise of `writer::write` gives each statement about a writer.
use mathlib.Core.Path.{◌≡◌, refl, sym, ap, ◌∙◌, subst}
use mathlib.Core.Bool.{Bool, true, false, not, ◌||◌, false≢true}
use mathlib.Core.Logic.{◌⊎◌, inl, inr}
use mathlib.Core.List.{List, [], ◌∷◌, ◌++◌, flatten}
use Prim.Native.Nat.{ℕ, ◌*◌, ◌≤◌, ◌<◌}
use native.Mathlib.Omega.{arith}
use lib.ListN.{length, drop, length-append, length-drop}
use lib.Seq.{drop-append_seam}
use lib.Dec.{ltb}
use borrow.Author.Tests.{ltb-true, ltb-false}
use Rattle.wire.specs.Each.{Each}
use Rattle.copy.specs.Laid.{over}
use Rattle.packet.specs.Refusals.{◌when◌, first_of}
use Rattle.writer.specs.Cut.{cut_by, fit}
use Rattle.writer.specs.Packets.{packets_of}
use Rattle.writer.specs.Answer.{Reply, wrote, refused_with, Outcome}
use Rattle.writer.specs.Written.{packet_count, outcome_by}
use Rattle.writer.proofs.Outcomes.{outcome}
use Rattle.reverse.specs.Sent.{Sent}
use Rattle.reverse.specs.Rule.{Obeys}
use Rattle.reverse.specs.Writer.{Promised, packets_in, RightStart, Carries, BadStartExactlyIf, BadSectionExactlyIf, RoomExactlyIf, WritesExactlyIf, NoOtherNumber, RefusedUnaltered, WritesByRule, LaterStay, Asked, GivenBack}
use Rattle.reverse.proofs.SentLaws.{fit_sent, sent_fit, sent_once, each_some}
use Rattle.reverse.proofs.RoomPackets.{packets_laid, flatten_long, headed_long, count_is, Long}
use Rattle.reverse.proofs.ObeysRule.{our_layout}
use Rattle.reverse.proofs.OnlyLayout.{only_layout}
use Rattle.reverse.proofs.FedBack.{fed_back}

-- ---- what a call comes to, case by case

abbrev pub room_with : ℕ → ℕ → List ℕ → List ℕ → List ℕ → List ℕ
room_with pid counter bytes sizes room = over (flatten (packets_of pid counter (cut_by sizes bytes))) room

pub data Comes (pid counter : ℕ) (bytes sizes room : List ℕ) (o : Outcome) : Type 0 where
  start_bad : (8191 < pid) ⊎ (15 < counter) → o ≡ outcome room (refused_with 101) → Comes pid counter bytes sizes room o
  section_bad : RightStart pid counter → fit sizes bytes ≡ false → o ≡ outcome room (refused_with 102)
      → Comes pid counter bytes sizes room o
  room_short : RightStart pid counter → fit sizes bytes ≡ true → length room < packet_count sizes * 188
      → o ≡ outcome room (refused_with 103) → Comes pid counter bytes sizes room o
  all_right : RightStart pid counter → fit sizes bytes ≡ true → packet_count sizes * 188 ≤ length room
      → o ≡ outcome (room_with pid counter bytes sizes room) (wrote (packet_count sizes))
      → Comes pid counter bytes sizes room o

module _ (pid counter : ℕ) (bytes sizes room : List ℕ) where
  abbrev by : Bool → Bool → Bool → Bool → Outcome
  by p c f r = outcome_by (first_of (101 when (p || c) ∷ 102 when not f ∷ 103 when r ∷ [])) pid counter bytes sizes room

  comes_by : (o : Outcome) (p c f r : Bool) → ltb 8191 pid ≡ p → ltb 15 counter ≡ c → fit sizes bytes ≡ f
      → ltb (length room) (packet_count sizes * 188) ≡ r → o ≡ by p c f r → Comes pid counter bytes sizes room o
  comes_by o true c f r e₁ e₂ e₃ e₄ e = start_bad (inl (ltb-true 8191 pid e₁)) e
  comes_by o false true f r e₁ e₂ e₃ e₄ e = start_bad (inr (ltb-true 15 counter e₂)) e
  comes_by o false false false r e₁ e₂ e₃ e₄ e =
      section_bad (record { pid_small = ltb-false 8191 pid e₁; counter_small = ltb-false 15 counter e₂ }) e₃ e
  comes_by o false false true true e₁ e₂ e₃ e₄ e =
      room_short (record { pid_small = ltb-false 8191 pid e₁; counter_small = ltb-false 15 counter e₂ }) e₃
      (ltb-true (length room) (packet_count sizes * 188) e₄) e
  comes_by o false false true false e₁ e₂ e₃ e₄ e =
      all_right (record { pid_small = ltb-false 8191 pid e₁; counter_small = ltb-false 15 counter e₂ }) e₃
      (ltb-false (length room) (packet_count sizes * 188) e₄) e

  pub comes : (o : Outcome) → Promised pid counter bytes sizes room o → Comes pid counter bytes sizes room o
  comes o e =
      comes_by o (ltb 8191 pid) (ltb 15 counter) (fit sizes bytes) (ltb (length room) (packet_count sizes * 188)) refl
      refl
      refl refl e

-- ---- answers apart

-- a refusal's number, and 0 where there is none
abbrev number : Reply → ℕ
number (wrote n) = 0
number (refused_with n) = n

abbrev many : Reply → ℕ
many (wrote n) = n
many (refused_with n) = 0

abbrev Wrote : Reply → Type 0
Wrote (wrote n) = Unit {0}
Wrote (refused_with n) = ⊥

said_is : {room : List ℕ} {o : Outcome} {x : Reply} → o ≡ outcome room x → o.said ≡ x
said_is e = ap (λ (z : Outcome). z.said) e

apart : {A : Type 0} {o : Outcome} {room : List ℕ} {x y : Reply} → o ≡ outcome room x → o.said ≡ y
    → (number x ≡ number y → ⊥) → A
apart e f k = absurd (k (ap number (sym (said_is e) ∙ f)))

-- ---- starts

not_both : {pid counter : ℕ} {A : Type 0} → (8191 < pid) ⊎ (15 < counter) → RightStart pid counter → A
not_both (inl k) r = let small = r.pid_small in absurd (omega arith)
not_both (inr k) r = let small = r.counter_small in absurd (omega arith)

-- ---- the packets

module _ (pid counter : ℕ) (bytes sizes : List ℕ) where
  -- where nothing is refused, these packets are written
  module _ (r : RightStart pid counter) (f : fit sizes bytes ≡ true) where
    abbrev packets : List (List ℕ)
    packets = packets_of pid counter (cut_by sizes bytes)

    obeyed : Obeys pid counter (cut_by sizes bytes) packets
    obeyed =
        our_layout pid counter (cut_by sizes bytes) r.pid_small r.counter_small
        (each_some (cut_by sizes bytes) (fit_sent sizes bytes f).each)

    as_many : length packets ≡ packet_count sizes
    as_many = count_is pid counter (cut_by sizes bytes) ∙ ap packet_count (fit_sent sizes bytes f).sizes_are

    each_long : Each Long packets
    each_long = headed_long pid counter obeyed.payloads packets obeyed.headed

    pub all_long : length (flatten packets) ≡ packet_count sizes * 188
    all_long = flatten_long packets each_long ∙ ap (λ (n : ℕ). n * 188) as_many

    pub carried : Carries pid counter bytes sizes (packet_count sizes)
    carried = record {
      sections = cut_by sizes bytes;
      packets = packets;
      sent = fit_sent sizes bytes f;
      obeys = obeyed;
      many = as_many;
    }

    pub in_room : (room : List ℕ) → packets_in (packet_count sizes) (room_with pid counter bytes sizes room) ≡ packets
    in_room room =
        ap (λ (n : ℕ). packets_in n (room_with pid counter bytes sizes room)) (sym as_many)
        ∙ packets_laid packets (drop (length (flatten packets)) room) each_long

  -- whatever packets obey the rule, there are so many of them
  pub carries_many : (n : ℕ) → Carries pid counter bytes sizes n → (fit sizes bytes ≡ true) × (n ≡ packet_count sizes)
  carries_many n c =
      let is = only_layout pid counter c.sections c.packets (each_some c.sections c.sent.each)
      c.obeys in (
        sent_fit c.sent,
        sym c.many ∙ ap length is ∙ count_is pid counter c.sections ∙ ap packet_count c.sent.sizes_are,
      )

-- ---- each statement

pub bad_start_exactly_if : BadStartExactlyIf Promised
bad_start_exactly_if pid counter bytes sizes room o e =
    let c = comes pid counter bytes sizes room o e in
    (forth c, back c)
  where
    forth : Comes pid counter bytes sizes room o → o.said ≡ refused_with 101 → (8191 < pid) ⊎ (15 < counter)
    forth (start_bad k f) g = k
    forth (section_bad r k f) g = apart f g (λ z. omega arith)
    forth (room_short r k w f) g = apart f g (λ z. omega arith)
    forth (all_right r k w f) g = apart f g (λ z. omega arith)

    back : Comes pid counter bytes sizes room o → (8191 < pid) ⊎ (15 < counter) → o.said ≡ refused_with 101
    back (start_bad k f) g = said_is f
    back (section_bad r k f) g = not_both g r
    back (room_short r k w f) g = not_both g r
    back (all_right r k w f) g = not_both g r

pub bad_section_exactly_if : BadSectionExactlyIf Promised
bad_section_exactly_if pid counter bytes sizes room o e =
    let c = comes pid counter bytes sizes room o e in
    (forth c, back c)
  where
    forth : Comes pid counter bytes sizes room o → o.said ≡ refused_with 102
        → RightStart pid counter × ((sections : List (List ℕ)) → Sent bytes sizes sections → ⊥)
    forth (start_bad k f) g = apart f g (λ z. omega arith)
    forth (section_bad r k f) g = (r, λ sections x. false≢true (sym k ∙ sent_fit x))
    forth (room_short r k w f) g = apart f g (λ z. omega arith)
    forth (all_right r k w f) g = apart f g (λ z. omega arith)

    back : Comes pid counter bytes sizes room o
        → RightStart pid counter × ((sections : List (List ℕ)) → Sent bytes sizes sections → ⊥)
        → o.said ≡ refused_with 102
    back (start_bad k f) g = not_both k g.0
    back (section_bad r k f) g = said_is f
    back (room_short r k w f) g = absurd (g.1 (cut_by sizes bytes) (fit_sent sizes bytes k))
    back (all_right r k w f) g = absurd (g.1 (cut_by sizes bytes) (fit_sent sizes bytes k))

pub room_exactly_if : RoomExactlyIf Promised
room_exactly_if pid counter bytes sizes room o e =
    let c = comes pid counter bytes sizes room o e in
    (forth c, λ g. back c g.0 g.1.0 g.1.1 g.1.2)
  where
    forth : Comes pid counter bytes sizes room o → o.said ≡ refused_with 103
        → RightStart pid counter × ((n : ℕ) × Carries pid counter bytes sizes n × (length room < n * 188))
    forth (start_bad k f) g = apart f g (λ z. omega arith)
    forth (section_bad r k f) g = apart f g (λ z. omega arith)
    forth (room_short r k w f) g = (r, (packet_count sizes, carried pid counter bytes sizes r k, w))
    forth (all_right r k w f) g = apart f g (λ z. omega arith)

    back : Comes pid counter bytes sizes room o → RightStart pid counter → (n : ℕ) → Carries pid counter bytes sizes n
        → length room < n * 188 → o.said ≡ refused_with 103
    back (start_bad k f) r n x g = not_both k r
    back (section_bad r₁ k f) r n x g = absurd (false≢true (sym k ∙ (carries_many pid counter bytes sizes n x).0))
    back (room_short r₁ k w f) r n x g = said_is f
    back (all_right r₁ k w f) r n x g =
        let is = (carries_many pid counter bytes sizes n x).1 in
        absurd (omega (arith, is))

pub writes_exactly_if : WritesExactlyIf Promised
writes_exactly_if pid counter bytes sizes room o e n =
    let c = comes pid counter bytes sizes room o e in
    (forth c, λ g. back c g.0 g.1 g.2)
  where
    forth : Comes pid counter bytes sizes room o → o.said ≡ wrote n
        → RightStart pid counter × Carries pid counter bytes sizes n × (n * 188 ≤ length room)
    forth (start_bad k f) g = apart f g (λ z. omega arith)
    forth (section_bad r k f) g = apart f g (λ z. omega arith)
    forth (room_short r k w f) g = apart f g (λ z. omega arith)
    forth (all_right r k w f) g =
        let is : packet_count sizes ≡ n = ap many (sym (said_is f) ∙ g) in
        (r, subst (Carries pid counter bytes sizes) is (carried pid counter bytes sizes r k), omega (arith, is))

    back : Comes pid counter bytes sizes room o → RightStart pid counter → Carries pid counter bytes sizes n
        → n * 188 ≤ length room → o.said ≡ wrote n
    back (start_bad k f) r x g = not_both k r
    back (section_bad r₁ k f) r x g = absurd (false≢true (sym k ∙ (carries_many pid counter bytes sizes n x).0))
    back (room_short r₁ k w f) r x g =
        let is = (carries_many pid counter bytes sizes n x).1 in
        absurd (omega (arith, is))
    back (all_right r₁ k w f) r x g = said_is f ∙ ap wrote (sym (carries_many pid counter bytes sizes n x).1)

pub no_other_number : NoOtherNumber Promised
no_other_number pid counter bytes sizes room o e n g = at (comes pid counter bytes sizes room o e)
  where
    same : {x : Reply} {l : List ℕ} → o ≡ outcome l x → n ≡ number x
    same f = ap number (sym g ∙ said_is f)

    at : Comes pid counter bytes sizes room o → (n ≡ 101) ⊎ ((n ≡ 102) ⊎ (n ≡ 103))
    at (start_bad k f) = inl (same f)
    at (section_bad r k f) = inr (inl (same f))
    at (room_short r k w f) = inr (inr (same f))
    at (all_right r k w f) = absurd (subst Wrote (sym (said_is f) ∙ g) tt)

pub refused_unaltered : RefusedUnaltered Promised
refused_unaltered pid counter bytes sizes room o e n g = at (comes pid counter bytes sizes room o e)
  where
    at : Comes pid counter bytes sizes room o → o.room ≡ room
    at (start_bad k f) = ap (λ (z : Outcome). z.room) f
    at (section_bad r k f) = ap (λ (z : Outcome). z.room) f
    at (room_short r k w f) = ap (λ (z : Outcome). z.room) f
    at (all_right r k w f) = absurd (subst Wrote (sym (said_is f) ∙ g) tt)

-- a call that wrote n packets
pub record Writes (pid counter : ℕ) (bytes sizes room : List ℕ) (o : Outcome) (n : ℕ) : Type 0 where
  pub right : RightStart pid counter
  pub fits : fit sizes bytes ≡ true
  pub many : packet_count sizes ≡ n
  pub room_is : o.room ≡ room_with pid counter bytes sizes room
  pub enough : packet_count sizes * 188 ≤ length room

writes_by : (pid counter : ℕ) (bytes sizes room : List ℕ) (o : Outcome) (n : ℕ) → o.said ≡ wrote n
    → Comes pid counter bytes sizes room o → Writes pid counter bytes sizes room o n
writes_by pid counter bytes sizes room o n g (start_bad k f) = absurd (subst Wrote (sym g ∙ said_is f) tt)
writes_by pid counter bytes sizes room o n g (section_bad r k f) = absurd (subst Wrote (sym g ∙ said_is f) tt)
writes_by pid counter bytes sizes room o n g (room_short r k w f) = absurd (subst Wrote (sym g ∙ said_is f) tt)
writes_by pid counter bytes sizes room o n g (all_right r k w f) = record {
  right = r;
  fits = k;
  many = ap many (sym (said_is f) ∙ g);
  room_is = ap (λ (z : Outcome). z.room) f;
  enough = w;
}

pub writes_at : (pid counter : ℕ) (bytes sizes room : List ℕ) (o : Outcome) → Promised pid counter bytes sizes room o
    → (n : ℕ) → o.said ≡ wrote n → Writes pid counter bytes sizes room o n
writes_at pid counter bytes sizes room o e n g =
    writes_by pid counter bytes sizes room o n g (comes pid counter bytes sizes room o e)

-- the packets of its room are those of the layout
pub packets_are : {pid counter : ℕ} {bytes sizes room : List ℕ} {o : Outcome} {n : ℕ}
    → Writes pid counter bytes sizes room o n
    → (sections : List (List ℕ)) → Sent bytes sizes sections → packets_in n o.room ≡ packets_of pid counter sections
packets_are {pid} {counter} {bytes} {sizes} {room} w sections x =
    sym (λ i. packets_in (w.many i) (sym w.room_is i))
    ∙ in_room pid counter bytes sizes w.right w.fits room
    ∙ ap (packets_of pid counter) (sent_once x)

pub writes_by_rule : WritesByRule Promised
writes_by_rule pid counter bytes sizes room o e n g sections x =
    let w = writes_at pid counter bytes sizes room o e n g in
    subst (Obeys pid counter sections) (sym (packets_are w sections x))
    (our_layout pid counter sections w.right.pid_small w.right.counter_small (each_some sections x.each))

pub later_stay : LaterStay Promised
later_stay pid counter bytes sizes room o e n g =
    let w = writes_at pid counter bytes sizes room o e n g in
    let all : List ℕ = flatten (packets_of pid counter (cut_by sizes bytes)) in
    let long : length all ≡ n * 188 =
    all_long pid counter bytes sizes w.right w.fits ∙ ap (λ (m : ℕ). m * 188) w.many in
    let enough = w.enough in
    let many = w.many in (
      ap (drop (n * 188)) w.room_is
          ∙ ap (λ (m : ℕ). drop m (all ++ drop (length all) room)) (sym long)
          ∙ drop-append_seam all (drop (length all) room)
          ∙ ap (λ (m : ℕ). drop m room) long,
      ap length w.room_is
          ∙ omega (arith, length-append all (drop (length all) room), length-drop (length all) room, long),
    )

pub asked : Asked Promised
asked = record {
  bad-start = bad_start_exactly_if;
  bad_section = bad_section_exactly_if;
  room_short = room_exactly_if;
  writes = writes_exactly_if;
  no_other = no_other_number;
  unaltered = refused_unaltered;
  by_rule = writes_by_rule;
  later_stay = later_stay;
}

pub given_back : GivenBack Promised
given_back pid counter bytes sizes room o e n g sections x r hold calls r' hold' ready big outs run are =
    let w = writes_at pid counter bytes sizes room o e n g in
    fed_back pid counter sections r hold calls r' hold' w.right.counter_small x.each ready big outs run
    (are ∙ packets_are w sections x)
