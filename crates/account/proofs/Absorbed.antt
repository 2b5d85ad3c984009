-- What is read next is entered next: where reading stands after each way through a turn, and what it comes to.
use Rattle.std.proofs.Common.{◌≡◌, ℕ, ◌+◌, ◌-◌, ◌/◌, ◌%◌, ◌<◌, ◌≤◌, Bool, true, false, eqb, ltb, leb, List, [], ◌++◌, length, take, drop, sym, refl, ap, ◌∙◌, subst, append-nil, arith, length-append, length-drop, take-append-drop, length-take-le, take-take, drop-drop, take-add, drop_at, ltb-false, ltb-true, le-ltb, lt-ltb, le-leb, leb-false, leb-true}
use mathlib.Core.Option.{some}
use lib.Seq.{take-append-le}
use borrow.Author.Tests.{lt-leb}
use Rattle.std.specs.Prelude.{Option, Some, None, Ok, if◌then◌else◌}
use Rattle.wire.proofs.IfLaws.{if-case}
use Rattle.account.specs.Entered.{first_pid, Kept, kept_as, entered, entered_all, pieces}
use Rattle.account.specs.Heard.{State, state_as, start_progress, account_or, account_for, to_front, waits, absorbed, with_piece, last_piece, finished_as, finished, Fits, brought, heard_as, ended_of}
use Rattle.account.specs.Input.{Heard, none_yet, one_more, last_read, OverAtTheEnd, account_of, rest_of, whole_account, end_of}
use Rattle.account.specs.declared.progress.Progress.{Progress}
use Rattle.account.specs.declared.progress.Stage.{Stage}
use Rattle.account.specs.declared.progress.Stage.TheVariants.{Reading, Over}
use Rattle.account.specs.declared.tally.Account.{Account}
use Rattle.account.specs.declared.reading.Got.{Got}
use Rattle.account.specs.declared.reading.Got.TheVariants.{Bytes, Again, End, Failed}
use Rattle.account.proofs.Cuts.{pieces_front, pid_front, rest_more, account_more, account_none}
use Rattle.account.proofs.Stands.{entering}

-- the account of an input, none before its first packet
abbrev so_far : List ℕ → List ℕ → List ℕ → Option Account
so_far input hold out = if leb 188 (length input) then Some (account_of input hold out).account else None

some_so_far : (input hold out : List ℕ) → 188 ≤ length input
    → so_far input hold out ≡ Some (account_of input hold out).account
some_so_far input hold out k =
    ap (λ (t : Bool). if t then Some (account_of input hold out).account else None) (le-leb 188 (length input) k)

none_so_far : (input hold out : List ℕ) → length input < 188 → so_far input hold out ≡ None
none_so_far input hold out k =
    ap (λ (t : Bool). if t then Some (account_of input hold out).account else None) (lt-leb 188 (length input) k)

-- so far this input has come: its whole packets are entered, and what is left of it stands at the buffer's front
record Reads (input hold₀ out₀ : List ℕ) (p : Progress) (buf hold out : List ℕ) : Type 0 where
  left : p.left ≡ length input % 188
  rest : take p.left buf ≡ drop (length input - p.left) input
  the_hold : hold ≡ (account_of input hold₀ out₀).hold
  the_out : out ≡ (account_of input hold₀ out₀).out
  the_account : p.account ≡ so_far input hold₀ out₀

-- n bytes of which l were left past the packets of i bytes leave what all of them leave
left_more : (i l n t : ℕ) → l ≡ i % 188 → t ≡ i - l + n → n % 188 ≡ t % 188
left_more i l n t e w = omega arith

-- the last bytes of a front part
drop_take : (b k : ℕ) (l : List ℕ) → b ≤ length l → drop b (take (b + k) l) ≡ take k (drop b l)
drop_take b k l w = ap (drop b) (take-add b k l) ∙ drop_at (take b l) (take k (drop b l)) b (length-take-le b l w)

-- what goes to the front stands there
front_moved : (from n : ℕ) (buf : List ℕ) → from + n ≤ length buf → take n (to_front buf from n) ≡ take n (drop from buf)
front_moved from n buf k =
    let long : length (take n (drop from buf)) ≡ n =
    length-take-le n (drop from buf) (omega (arith, length-drop from buf)) in
    take-append-le n (take n (drop from buf)) (drop n buf) (omega arith) ∙ take-take n n (drop from buf) (omega arith)

module _ {input hold₀ out₀ : List ℕ} {p : Progress} {buf hold out : List ℕ}
    (x : Reads input hold₀ out₀ p buf hold out) where
  -- ---- begun, or not

  has_begun : 188 ≤ length input → p.account ≡ Some (account_of input hold₀ out₀).account
  has_begun k = x.the_account ∙ some_so_far input hold₀ out₀ k

  not_begun : length input < 188 → p.account ≡ None
  not_begun k = x.the_account ∙ none_so_far input hold₀ out₀ k

  kept_begun : kept_as (account_of input hold₀ out₀).account hold out ≡ account_of input hold₀ out₀
  kept_begun = λ i. record { account = (account_of input hold₀ out₀).account; hold = x.the_hold i; out = x.the_out i }

  kept_none : length input < 188 → (hold ≡ hold₀) × (out ≡ out₀)
  kept_none k =
      let none = account_none input hold₀ out₀ k in
      (x.the_hold ∙ ap (λ (k : Kept). k.hold) none, x.the_out ∙ ap (λ (k : Kept). k.out) none)

  -- ---- the buffer's first n bytes have come

  module _ (n : ℕ) (from : p.left ≤ n) (fits : n ≤ length buf) where
    abbrev new : List ℕ
    new = drop p.left (take n buf)

    came : take n buf ≡ rest_of input ++ new
    came =
        sym (take-append-drop p.left (take n buf))
        ∙ ap (λ (l : List ℕ). l ++ new)
        (take-take p.left n buf from ∙ x.rest ∙ ap (λ (k : ℕ). drop (length input - k) input) x.left)

    n_long : length (take n buf) ≡ n
    n_long = length-take-le n buf fits

    new_long : length new ≡ n - p.left
    new_long = length-drop p.left (take n buf) ∙ ap (λ (k : ℕ). k - p.left) n_long

    count : length input % 188 + length new ≡ n
    count = omega (arith, new_long, x.left)

    total : length (input ++ new) ≡ length input - p.left + n
    total = omega (arith, length-append input new, new_long, x.left)

    -- the buffer's whole packets are those of what came
    pieces_came : pieces (n / 188) buf ≡ pieces (n / 188) (rest_of input ++ new)
    pieces_came =
        ap (pieces (n / 188)) (sym (take-append-drop n buf))
        ∙ pieces_front (n / 188) (take n buf) (drop n buf) (omega (arith, n_long))
        ∙ ap (pieces (n / 188)) came

    -- a first packet has not come before these bytes
    all_new : length input < 188 → take n buf ≡ input ++ new
    all_new k =
        let none : length input - length input % 188 ≡ 0 = omega arith in
        came ∙ ap (λ (m : ℕ). drop m input ++ new) none

    goes_on : 188 ≤ length input
        → account_of (input ++ new) hold₀ out₀
        ≡ entered_all (account_of input hold₀ out₀) (pieces (n / 188) (rest_of input ++ new))
    goes_on k =
        account_more input new hold₀ out₀ k
        ∙ ap (λ (m : ℕ). entered_all (account_of input hold₀ out₀) (pieces (m / 188) (rest_of input ++ new))) count

    -- ---- at least a packet has come

    begins : (t : Bool) → leb 188 (length input) ≡ t → 188 ≤ n
        → entered_all (kept_as (account_for p buf) hold out) (pieces (n / 188) buf) ≡ account_of (input ++ new) hold₀ out₀
    begins true e k =
        let begun : 188 ≤ length input = leb-true 188 (length input) e in
        ap (entered_all (kept_as (account_for p buf) hold out)) pieces_came
        ∙ (λ i. entered_all (kept_as (account_or (has_begun begun i) (first_pid buf)) hold out)
        (pieces (n / 188) (rest_of input ++ new)))
        ∙ ap (λ (y : Kept). entered_all y (pieces (n / 188) (rest_of input ++ new))) kept_begun
        ∙ sym (goes_on begun)
    begins false e k =
        let few : length input < 188 = leb-false 188 (length input) e in
        let all = all_new few in
        let pid : first_pid buf ≡ first_pid (input ++ new) =
        ap first_pid (sym (take-append-drop n buf))
        ∙ pid_front (take n buf) (drop n buf) (omega (arith, n_long))
        ∙ ap first_pid all in
        let size : n ≡ length (input ++ new) = sym n_long ∙ ap length all in
        ap (entered_all (kept_as (account_for p buf) hold out)) (pieces_came ∙ ap (pieces (n / 188)) (sym came ∙ all))
        ∙ (λ i. entered_all
        (kept_as (account_or (not_begun few i) (pid i)) ((kept_none few).0 i) ((kept_none few).1 i))
        (pieces (size i / 188) (input ++ new)))

    abbrev ReadsAt : State → Type 0
    ReadsAt s = Reads (input ++ new) hold₀ out₀ s.progress s.buf s.hold s.out

    reads_long : 188 ≤ n → ReadsAt (entering n (state_as p buf hold out))
    reads_long k =
        let kept : entered_all (kept_as (account_for p buf) hold out) (pieces (n / 188) buf)
        ≡ account_of (input ++ new) hold₀ out₀ =
        begins (leb 188 (length input)) refl k in
        let b : ℕ = n - n % 188 in
        let whole : b + n % 188 ≡ n = omega arith in
        let at : length (input ++ new) - n % 188 ≡ (length input - length input % 188) + b =
        omega (arith, total, x.left) in
        record {
          left = left_more (length input) p.left n (length (input ++ new)) x.left total;
          rest =
              front_moved (n - n % 188) (n % 188) buf (omega arith)
              ∙ sym (drop_take b (n % 188) buf (omega arith))
              ∙ ap (λ (z : ℕ). drop b (take z buf)) whole
              ∙ ap (drop b) (came ∙ sym (rest_more input new hold₀ out₀))
              ∙ drop-drop b (length input - length input % 188) (input ++ new)
              ∙ ap (λ (z : ℕ). drop z (input ++ new)) (sym at);
          the_hold = ap (λ (y : Kept). y.hold) kept;
          the_out = ap (λ (y : Kept). y.out) kept;
          the_account =
              ap (λ (y : Kept). Some y.account) kept
              ∙ sym (some_so_far (input ++ new) hold₀ out₀ (omega (arith, total)));
        }

    -- ---- less than a packet is there

    stays : n < 188 → 188 ≤ length input → account_of (input ++ new) hold₀ out₀ ≡ account_of input hold₀ out₀
    stays k w =
        let none : n / 188 ≡ 0 = omega arith in
        goes_on w ∙ ap (λ (m : ℕ). entered_all (account_of input hold₀ out₀) (pieces m (rest_of input ++ new))) none

    rooms : n < 188 → (t : Bool) → leb 188 (length input) ≡ t
        → (hold ≡ (account_of (input ++ new) hold₀ out₀).hold) × (out ≡ (account_of (input ++ new) hold₀ out₀).out)
        × (p.account ≡ so_far (input ++ new) hold₀ out₀)
    rooms k true e =
        let begun : 188 ≤ length input = leb-true 188 (length input) e in
        let s = sym (stays k begun) in (
          x.the_hold ∙ ap (λ (y : Kept). y.hold) s,
          x.the_out ∙ ap (λ (y : Kept). y.out) s,
          has_begun begun
              ∙ ap (λ (y : Kept). Some y.account) s
              ∙ sym (some_so_far (input ++ new) hold₀ out₀ (omega (arith, total))),
        )
    rooms k false e =
        let short : length input < 188 = leb-false 188 (length input) e in
        let few : length (input ++ new) < 188 = omega (arith, total, x.left) in
        let s = sym (account_none (input ++ new) hold₀ out₀ few) in (
          (kept_none short).0 ∙ ap (λ (y : Kept). y.hold) s,
          (kept_none short).1 ∙ ap (λ (y : Kept). y.out) s,
          not_begun short ∙ sym (none_so_far (input ++ new) hold₀ out₀ few),
        )

    reads_short : n < 188 → ReadsAt (waits n (state_as p buf hold out))
    reads_short k =
        let at : length (input ++ new) - n ≡ length input - length input % 188 = omega (arith, total, x.left) in
        let r = rooms k (leb 188 (length input)) refl in
        record {
          left = omega (arith, total, x.left);
          rest = came ∙ sym (rest_more input new hold₀ out₀) ∙ ap (λ (z : ℕ). drop z (input ++ new)) (sym at);
          the_hold = r.0;
          the_out = r.1;
          the_account = r.2;
        }

  -- ---- a read that brings nothing, and the end

  reads_again : (buf' : List ℕ) → take p.left buf' ≡ take p.left buf → Reads input hold₀ out₀ p buf' hold out
  reads_again buf' e = record {
    left = x.left;
    rest = e ∙ x.rest;
    the_hold = x.the_hold;
    the_out = x.the_out;
    the_account = x.the_account;
  }

  -- ---- the end of the input

  abbrev so_much : Kept
  so_much = account_of input hold₀ out₀

  -- the piece that is left, if there is one, is the rest of the input
  piece_entered : (with_piece p.left buf (kept_as so_much.account hold out)).account ≡ whole_account input hold₀ out₀
  piece_entered =
      let rest : take p.left buf ≡ rest_of input =
      x.rest ∙ ap (λ (m : ℕ). drop (length input - m) input) x.left in
      (λ i. (if eqb (x.left i) 0 then kept_begun i else entered (kept_begun i) (rest i)).account)
      ∙ out_of (eqb (length input % 188) 0)
    where
      out_of : (t : Bool) → (if t then so_much else entered so_much (rest_of input)).account
          ≡ (if t then so_much.account else (entered so_much (rest_of input)).account)
      out_of true = refl
      out_of false = refl

  ends : ended_of (finished (state_as p buf hold out)).progress ≡ end_of input hold₀ out₀
  ends = by (leb 188 (length input)) refl
    where
      by : (t : Bool) → leb 188 (length input) ≡ t
          → ended_of (finished (state_as p buf hold out)).progress ≡ end_of input hold₀ out₀
      by true e =
          let s : State = state_as p buf hold out in
          let begun : 188 ≤ length input = leb-true 188 (length input) e in
          (λ i. ended_of (finished_as s (last_piece (has_begun begun i) s)).progress)
          ∙ ap (λ (a : Account). Ok (Some a)) piece_entered
          ∙ ap (λ (t : Bool). if t then Ok None else Ok (Some (whole_account input hold₀ out₀)))
          (sym (le-ltb (length input) 188 begun))
      by false e =
          let s : State = state_as p buf hold out in
          let few : length input < 188 = leb-false 188 (length input) e in
          (λ i. ended_of (finished_as s (last_piece (not_begun few i) s)).progress)
          ∙ ap Ok (not_begun few)
          ∙ ap (λ (t : Bool). if t then Ok None else Ok (Some (whole_account input hold₀ out₀)))
          (sym (lt-ltb (length input) 188 few))

-- before the first read
reads_none : (hold out buf : List ℕ) → Reads [] hold out start_progress buf hold out
reads_none hold out buf = record {
  left = refl;
  rest = refl;
  the_hold = refl;
  the_out = refl;
  the_account = refl;
}

-- ---- all reads

abbrev stage_number : Stage → ℕ
stage_number Reading = 0
stage_number Over = 1
stage_number Stage.Failed = 2

not_stage : {s : Stage} (k : Stage) → (stage_number s ≡ stage_number k → ⊥) → s ≡ k → ⊥
not_stage k f e = f (ap stage_number e)

-- while reading goes on, it stands in the input that has come; when it is over, it comes to what that input comes to
record GoingOrOver (hold₀ out₀ input : List ℕ) (s : State) : Type 0 where
  going : s.progress.stage ≡ Reading → Reads input hold₀ out₀ s.progress s.buf s.hold s.out
  over : s.progress.stage ≡ Over → ended_of s.progress ≡ end_of input hold₀ out₀

-- no byte came
with_no_byte : {hold₀ out₀ : List ℕ} {s : State} (input : List ℕ) → GoingOrOver hold₀ out₀ input s
    → GoingOrOver hold₀ out₀ (input ++ []) s
with_no_byte {hold₀} {out₀} {s} input x = subst (λ (l : List ℕ). GoingOrOver hold₀ out₀ l s) (sym (append-nil input)) x

after_a_read : {input hold₀ out₀ : List ℕ} {p : Progress} {buf hold out : List ℕ} → p.stage ≡ Reading
    → Reads input hold₀ out₀ p buf hold out
    → (got : Got) → Fits p.left got (length buf)
    → GoingOrOver hold₀ out₀ (input ++ brought p.left buf got) (heard_as got (state_as p buf hold out))
after_a_read {input} {hold₀} {out₀} {p} {buf} {hold} {out} w x (Bytes n) k =
    let m : ℕ = p.left + n in
    let s : State = state_as p buf hold out in
    subst (λ (l : List ℕ). GoingOrOver hold₀ out₀ (input ++ l) (heard_as (Bytes n) s)) (drop_take p.left n buf (omega arith))
    (if-case (GoingOrOver hold₀ out₀ (input ++ drop p.left (take m buf))) (ltb m 188) {x = waits m s} {y = entering m s}
    (λ e.
    record {
      going = λ _. reads_short x m (omega arith) k (ltb-true _ _ e);
      over = λ z. absurd (not_stage Over (λ y. omega arith) z);
    })
    (λ e.
    record {
      going = λ _. reads_long x m (omega arith) k (ltb-false _ _ e);
      over = λ z. absurd (not_stage Over (λ y. omega arith) z);
    }))
after_a_read {input} w x Again k =
    with_no_byte input (record { going = λ _. x; over = λ z. absurd (not_stage Over (λ y. omega arith) (sym w ∙ z)) })
after_a_read {input} w x End k =
    with_no_byte input (record { going = λ z. absurd (not_stage Reading (λ y. omega arith) z); over = λ _. ends x })
after_a_read {input} w x Failed k =
    with_no_byte input
    (record {
      going = λ z. absurd (not_stage Reading (λ y. omega arith) z);
      over = λ z. absurd (not_stage Over (λ y. omega arith) z);
    })

going_or_over : {hold₀ out₀ input : List ℕ} {reads : ℕ} {s : State} → Heard hold₀ out₀ input reads s → GoingOrOver hold₀ out₀ input s
going_or_over (none_yet {buf = buf} k h o) = record {
  going = λ _. reads_none _ _ buf;
  over = λ z. absurd (not_stage Over (λ y. omega arith) z);
}
going_or_over (one_more x w buf got l b) =
    after_a_read w (reads_again ((going_or_over x).going w) buf b.kept) got (subst (Fits _ got) (sym l) b.fits)

-- whatever the reads brought, and however it was cut: reading comes to what the input comes to
pub reads_end : {hold₀ out₀ input : List ℕ} {reads : ℕ} {s : State} → Heard hold₀ out₀ input reads s
    → s.progress.stage ≡ Over → ended_of s.progress ≡ end_of input hold₀ out₀
reads_end x e = (going_or_over x).over e

-- ---- why it is over

absorbs_on : (n : ℕ) (s : State) (k : Stage) → (stage_number Reading ≡ stage_number k → ⊥)
    → (absorbed n s).progress.stage ≡ k → ⊥
absorbs_on n s k f =
    if-case (λ (z : State). z.progress.stage ≡ k → ⊥) (ltb n 188) {x = waits n s} {y = entering n s} (λ _. not_stage k f)
    (λ _. not_stage k f)

over_by : (got : Got) (s : State) → s.progress.stage ≡ Reading → (heard_as got s).progress.stage ≡ Over → got ≡ End
over_by (Bytes n) s w e = absurd (absorbs_on (s.progress.left + n) s Over (λ y. omega arith) e)
over_by Again s w e = absurd (not_stage Over (λ y. omega arith) (sym w ∙ e))
over_by End s w e = refl
over_by Failed s w e = absurd (not_stage Over (λ y. omega arith) e)

failed_by : (got : Got) (s : State) → s.progress.stage ≡ Reading → (heard_as got s).progress.stage ≡ Stage.Failed
    → got ≡ Failed
failed_by (Bytes n) s w e = absurd (absorbs_on (s.progress.left + n) s Stage.Failed (λ y. omega arith) e)
failed_by Again s w e = absurd (not_stage Stage.Failed (λ y. omega arith) (sym w ∙ e))
failed_by End s w e = absurd (not_stage Stage.Failed (λ y. omega arith) e)
failed_by Failed s w e = refl

ends_heard : {hold₀ out₀ input : List ℕ} {reads : ℕ} {s : State} (x : Heard hold₀ out₀ input reads s)
    → (s.progress.stage ≡ Over → last_read x ≡ some End) × (s.progress.stage ≡ Stage.Failed → last_read x ≡ some Failed)
ends_heard (none_yet k h o) = (
  λ e. absurd (not_stage Over (λ y. omega arith) e),
  λ e. absurd (not_stage Stage.Failed (λ y. omega arith) e),
)
ends_heard (one_more x w buf got l b) = (λ e. ap some (over_by got _ w e), λ e. ap some (failed_by got _ w e))

pub over-at-the-end : OverAtTheEnd
over-at-the-end hold₀ out₀ p x =
    let stage = ap (λ (q : Progress). q.stage) x.progress_is in
    (λ e. (ends_heard x.heard).0 (stage ∙ e), λ e. (ends_heard x.heard).1 (stage ∙ e))
