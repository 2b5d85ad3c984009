-- What the program says of the input that it read: the account is a run of the collector, and its lines are demand 3's
-- counts.
use Rattle.std.proofs.Common.{◌≡◌, ℕ, zero, suc, ◌+◌, ◌-◌, ◌*◌, ◌/◌, ◌%◌, ◌^◌, ◌<◌, ◌≤◌, Bool, true, false, not, ◌||◌, eqb, ltb, List, [], ◌∷◌, ◌++◌, map, length, take, drop, sym, refl, ap, ◌∙◌, subst, append_assoc, append-nil, zero-add, arith, length-drop, take-append-drop, length-take-le, drop-drop, ltb-false, ltb-true, ne_eqb, eqb-true}
use mathlib.Core.List.{map-append, flatten}
use lib.ListN.{length-map}
use borrow.Author.Tests.{eqb-false}
use Rattle.std.specs.Prelude.{Some, None, Ok, if◌then◌else◌}
use Rattle.wire.proofs.IfLaws.{if-case}
use Rattle.packet.specs.Ruling.{Before, noneBefore, Carried, ruled_by}
use Rattle.collector.specs.Rules.{Story}
use Rattle.collector.specs.Judged.{by_judge}
use Rattle.packet.specs.Refusals.{◌when◌, refusals, first_of, judged_by, judged}
use Rattle.collector.specs.Collected.{fresh_record}
use Rattle.collector.proofs.MarkLaws.{flatten_append, flatten_one}
use Rattle.history.specs.History.{Byte, value_of, history_of}
use Rattle.history.specs.Run.{Promised, Call, Run, Fare, refused_by, ruled_fare, Lent, lent_of, before_after, ruling_on, fares_from, ruled_taken, handed}
use Rattle.history.specs.Demand3.{Counted, story_by, delivered_in}
use Rattle.history.proofs.Demand3.{by_packets_alone, counters_are_fates, delivered_in_order}
use Rattle.account.specs.Entered.{first_pid, fresh_account, Kept, kept_as, entered, entered_all, pieces}
use Rattle.account.specs.Heard.{State, ended_of}
use Rattle.account.specs.Input.{Heard, none_yet, one_more, CameTo, account_of, rest_of, whole_account, end_of}
use Rattle.account.specs.Lines.{packets_of, Cut, CutAt188, pid_in, lent, fares_in, LastPieceRefused, story_in, one_taken, one_repeated, one_refused, total, Lines, IsRun, Says}
use Rattle.account.specs.declared.tally.Account.{Account}
use Rattle.account.specs.declared.progress.Progress.{Progress}
use Rattle.account.specs.declared.progress.Stage.TheVariants.{Over}
use Rattle.account.proofs.Cuts.{entered_append, pid_front}
use Rattle.account.proofs.Absorbed.{reads_end}
use Rattle.account.proofs.RunOf.{calls_from, packets_are, runs, pid_stays, Tally, fares_by, tally_all, fares_are, taken_are}

-- ---- the cut

-- so many pieces, and what is behind them
pieces_join : (n : ℕ) (l : List ℕ) → flatten (pieces n l) ++ drop (n * 188) l ≡ l
unfolding flatten
pieces_join zero l = refl
pieces_join (suc n) l =
    let behind : suc n * 188 ≡ 188 + n * 188 = omega arith in
    append_assoc (take 188 l) (flatten (pieces n (drop 188 l))) (drop (suc n * 188) l)
    ∙ ap (λ (m : List ℕ). take 188 l ++ (flatten (pieces n (drop 188 l)) ++ m))
    (ap (λ (m : ℕ). drop m l) behind ∙ sym (drop-drop (n * 188) 188 l))
    ∙ ap (λ (m : List ℕ). take 188 l ++ m) (pieces_join n (drop 188 l))
    ∙ take-append-drop 188 l

cut_cons : (p : List ℕ) (ps : List (List ℕ)) → length p ≡ 188 → Cut ps → Cut (p ∷ ps)
cut_cons p [] e c = (omega arith, omega arith)
cut_cons p (q ∷ ps) e c = (e, c)

cut_pieces : (n : ℕ) (l : List ℕ) (ps : List (List ℕ)) → n * 188 ≤ length l → Cut ps → Cut (pieces n l ++ ps)
cut_pieces zero l ps k c = c
cut_pieces (suc n) l ps k c =
    cut_cons (take 188 l) (pieces n (drop 188 l) ++ ps) (length-take-le 188 l (omega arith))
    (cut_pieces n (drop 188 l) ps (omega (arith, length-drop 188 l)) c)

no_bytes : (l : List ℕ) → length l ≡ 0 → [] ≡ l
no_bytes [] e = refl
no_bytes (b ∷ l) e = absurd (omega arith)

-- what is behind the whole pieces, as a piece if there is any
last_cut : (l : List ℕ) (t : Bool) → eqb (length l) 0 ≡ t → length l < 188
    → (flatten (if t then [] else l ∷ []) ≡ l) × Cut (if t then [] else l ∷ [])
unfolding flatten
last_cut l true e k = (no_bytes l (eqb-true _ _ e), tt)
last_cut l false e k = (flatten_one l, (omega (arith, eqb-false (length l) 0 e), omega arith))

pub cut-at-188 : CutAt188
cut-at-188 input =
    let n : ℕ = length input / 188 in
    let size : length (rest_of input) ≡ length input % 188 =
    omega (arith, length-drop (length input - length input % 188) input) in
    let at : length input - length input % 188 ≡ n * 188 = omega arith in
    let end = last_cut (rest_of input) (eqb (length input % 188) 0) (ap (λ (m : ℕ). eqb m 0) size) (omega arith) in (
      flatten_append (pieces n input) (if eqb (length input % 188) 0 then [] else rest_of input ∷ [])
          ∙ ap (λ (m : List ℕ). flatten (pieces n input) ++ m) (end.0 ∙ ap (λ (m : ℕ). drop m input) at)
          ∙ pieces_join n input,
      cut_pieces n input (if eqb (length input % 188) 0 then [] else rest_of input ∷ []) (omega arith) end.1,
    )

-- ---- a last piece

short_refused : (pid size : ℕ) (before : Before) (x : Lent) → (length x.packet ≡ 188 → ⊥)
    → ruled_fare (ruling_on pid size before x) ≡ refused_by 41
unfolding judged
short_refused pid size before x k =
    let p : List ℕ = x.packet in
    ap (λ (t : Bool). ruled_fare (ruled_by before p
    (judged_by
    (first_of (41 when not t ∷ 42 when (ltb size 4096 || ltb x.room 4280) ∷ 43 when ltb 8191 pid
    ∷ drop 3 (refusals false false pid p)))
    p)))
    (ne_eqb (length p) 188 k)

fares_short : (pid size : ℕ) (before : Before) (xs : List Lent) (x : Lent) → (length x.packet ≡ 188 → ⊥)
    → fares_from pid size before (xs ++ x ∷ []) ≡ fares_from pid size before xs ++ (refused_by 41 ∷ [])
fares_short pid size before [] x k = ap (λ (f : Fare). f ∷ []) (short_refused pid size before x k)
fares_short pid size before (y ∷ xs) x k =
    ap (λ (l : List Fare). ruled_fare (ruling_on pid size before y) ∷ l)
    (fares_short pid size (before_after before (ruling_on pid size before y)) xs x k)

pub last_piece_refused : LastPieceRefused
last_piece_refused input k =
    let whole : List (List ℕ) = pieces (length input / 188) input in
    let short : length (rest_of input) ≡ 188 → ⊥ = λ e. let d =
    length-drop (length input - length input % 188) input in omega arith in
    ap (λ (t : Bool). fares_from (pid_in input) 4096 noneBefore (map lent (whole ++ (if t then [] else rest_of input ∷ []))))
    (ne_eqb (length input % 188) 0 k)
    ∙ ap (fares_from (pid_in input) 4096 noneBefore) (map-append lent whole (rest_of input ∷ []))
    ∙ fares_short (pid_in input) 4096 noneBefore (map lent whole) (lent (rest_of input)) short

-- ---- the account

module _ (input hold₀ out₀ : List ℕ) (enough : 188 ≤ length input) (hold_is : length hold₀ ≡ 4096)
    (out-is : length out₀ ≡ 4280) where
  abbrev from : Kept
  from = kept_as (fresh_account (pid_in input)) hold₀ out₀

  -- the PID is that of the first packet
  first_pid_is : first_pid input ≡ pid_in input
  first_pid_is =
      ap first_pid (sym (take-append-drop 188 input))
      ∙ pid_front (take 188 input) (drop 188 input) (omega (arith, length-take-le 188 input enough))

  abbrev whole : List (List ℕ)
  whole = pieces (length input / 188) input

  all_entered : whole_account input hold₀ out₀ ≡ (entered_all from (packets_of input)).account
  all_entered = by (eqb (length input % 188) 0)
    where
      is : account_of input hold₀ out₀ ≡ entered_all from whole
      is = ap (λ (n : ℕ). entered_all (kept_as (fresh_account n) hold₀ out₀) whole) first_pid_is

      by : (t : Bool)
          → (if t then (account_of input hold₀ out₀).account else (entered (account_of input hold₀ out₀)
          (rest_of input)).account)
          ≡ (entered_all from (whole ++ (if t then [] else rest_of input ∷ []))).account
      by true = ap (λ (k : Kept). k.account) (is ∙ ap (entered_all from) (sym (append-nil whole)))
      by false =
          ap (λ (k : Kept). (entered k (rest_of input)).account) is
          ∙ ap (λ (k : Kept). k.account) (sym (entered_append from whole (rest_of input ∷ [])))

  abbrev after : Kept
  after = entered_all from (packets_of input)

  abbrev calls : List Call
  calls = calls_from from (packets_of input)

  run : Run Promised (fresh_record (pid_in input)) hold₀ calls after.account.rec after.hold
  run = runs from (packets_of input)

  -- ---- its lines

  fares : fares_by calls ≡ fares_in input
  fares =
      by_packets_alone (pid_in input) hold₀ calls after.account.rec after.hold run
      ∙ ap (λ (n : ℕ). fares_from (pid_in input) n noneBefore (map lent_of calls)) hold_is
      ∙ fares_are (pid_in input) 4096 from (packets_of input) (omega arith) noneBefore

  story : story_by (pid_in input) hold₀ calls ≡ story_in input
  story =
      ap (λ (qs : List (Carried ℕ)). (history_of by_judge qs).story)
      (ap (λ (n : ℕ). ruled_taken (pid_in input) n noneBefore (map lent_of calls)) hold_is
      ∙ taken_are (pid_in input) 4096 from (packets_of input) (omega arith) noneBefore)

  tally : Tally after.account (0 + total one_taken (fares_by calls)) (0 + total one_repeated (fares_by calls))
      (0 + total one_refused (fares_by calls)) (0 + length (handed calls))
  tally =
      tally_all from (packets_of input) 0 0 0 0
      (record { taken_is = refl; repeated_is = refl; refused_is = refl; sections_is = refl })

  counts : (one : Fare → ℕ) → (0 + total one (fares_by calls)) % 2 ^ 64 ≡ total one (fares_in input) % 2 ^ 64
  counts one = ap (λ (n : ℕ). n % 2 ^ 64) (zero-add (total one (fares_by calls)) ∙ ap (total one) fares)

  sections : (0 + length (handed calls)) % 2 ^ 64 ≡ length (delivered_in (story_in input)) % 2 ^ 64
  sections =
      let out = delivered_in_order (pid_in input) hold₀ calls after.account.rec after.hold run in
      ap (λ (n : ℕ). n % 2 ^ 64)
      (zero-add (length (handed calls))
      ∙ ap length out.sections_are
      ∙ length-map (delivered_in (story_by (pid_in input) hold₀ calls)) (map value_of)
      ∙ ap (λ (s : Story Byte). length (delivered_in s)) story)

  lines : Lines input after.account
  lines =
      let c : Counted after.account.rec after.hold (story_in input) =
      subst (Counted after.account.rec after.hold) story
      (counters_are_fates (pid_in input) hold₀ calls after.account.rec after.hold run) in
      record {
        pid_is = pid_stays from (packets_of input);
        taken_is = tally.taken_is ∙ counts one_taken;
        repeated_is = tally.repeated_is ∙ counts one_repeated;
        refused_is = tally.refused_is ∙ counts one_refused;
        counters_are = c.counters_are;
        in_hand_is = c.in_hand_is;
        sections_is = tally.sections_is ∙ sections;
      }

  is_run : IsRun input after.account
  is_run = record {
    hold = hold₀;
    hold' = after.hold;
    calls = calls;
    hold_long = hold_is;
    packets_are = packets_are from (packets_of input);
    run = run;
  }

  whole_says : Says input (Ok (Some (whole_account input hold₀ out₀)))
  whole_says = subst (λ (a : Account). Says input (Ok (Some a))) (sym all_entered) (enough, is_run, lines)

-- ---- the program

rooms_are : {hold₀ out₀ input : List ℕ} {reads : ℕ} {s : State} → Heard hold₀ out₀ input reads s
    → (length hold₀ ≡ 4096) × (length out₀ ≡ 4280)
rooms_are (none_yet k h o) = (h, o)
rooms_are (one_more x w buf got l b) = rooms_are x

end_says_lem : (input hold out : List ℕ) → length hold ≡ 4096 → length out ≡ 4280 → Says input (end_of input hold out)
end_says_lem input hold out h o =
    if-case (Says input) (ltb (length input) 188) {x = Ok None} {y = Ok (Some (whole_account input hold out))}
    (λ e. ltb-true _ _ e) (λ e. whole_says input hold out (ltb-false _ _ e) h o)

-- where reading is over, what the program says is so of the bytes that the reads brought
pub account_says : (hold₀ out₀ : List ℕ) (p : Progress) (x : CameTo hold₀ out₀ p) → p.stage ≡ Over
    → Says x.input (ended_of p)
account_says hold₀ out₀ p x e =
    let rooms = rooms_are x.heard in
    let end : ended_of p ≡ end_of x.input hold₀ out₀ =
    ap ended_of (sym x.progress_is) ∙ reads_end x.heard (ap (λ (q : Progress). q.stage) x.progress_is ∙ e) in
    subst (Says x.input) (sym end) (end_says_lem x.input hold₀ out₀ rooms.0 rooms.1)
