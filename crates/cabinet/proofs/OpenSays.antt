-- What opening says in numbers, of a section that is accepted and of one that is refused.
use Prim.Native.Nat.{ℕ}
use mathlib.Core.Path.{◌≡◌}
use mathlib.Core.List.{List}
use Rattle.std.specs.Prelude.{Ok, Err}
use Rattle.verdict.specs.Verdict.{number_of, place_of, told_refusal}
use Rattle.verdict.specs.declared.Refusal.{Refusal}
use Rattle.verdict.proofs.SaidLaws.{refusal_lem}
use Rattle.parts.specs.Opening.{Opens}
use Rattle.parts.specs.declared.opening.Opened.{Opened}
use Rattle.cabinet.specs.Parts.{says, bare, head_of, head_if, no_part, open_says}
use Rattle.cabinet.specs.declared.section_parts.Head.{Head}
use Rattle.cabinet.specs.declared.text_readings.Part.{Part}

pub accepted_says : (s : List ℕ) (o : Opened) → Opens s (Ok o)
    → open_says s
    ≡ record { number = 0; place = 0; head = head_of s; utc_time = says o.utc_time; top = says o.top; entries = says o.entries }
unfolding open_says head_if
accepted_says s o is = rw (is.utc_time_lem, is.top, is.entries, ← is.verdict)

pub refused_says : (s : List ℕ) (r : Refusal) → Opens s (Err r)
    → open_says s
    ≡ record {
      number = number_of (told_refusal r);
      place = place_of (told_refusal r);
      head = bare 0;
      utc_time = no_part;
      top = no_part;
      entries = no_part;
    }
unfolding open_says head_if
refused_says s r is = rw (← is.verdict, refusal_lem r)

zeros : {a b c d e f g h i j : ℕ}
    → (a ≡ 0) × ((b ≡ 0) × ((c ≡ 0) × ((d ≡ 0) × ((e ≡ 0) × ((f ≡ 0) × ((g ≡ 0) × ((h ≡ 0) × ((i ≡ 0) × (j ≡ 0)))))))))
    → ◌≡◌ {A = Head}
    (record {
      table_id = a;
      network_id = b;
      bouquet_id = c;
      service_id = d;
      transport_stream_id = e;
      original_network_id = f;
      version_number = g;
      current_next_indicator = h;
      section_number = i;
      last_section_number = j;
    })
    (bare 0)
zeros (a, (b, (c, (d, (e, (f, (g, (h, (i, j))))))))) = rw (a, b, c, d, e, f, g, h, i, j)

pub bare_zeros : (h : Head)
    → (h.table_id ≡ 0) × ((h.network_id ≡ 0) × ((h.bouquet_id ≡ 0) × ((h.service_id ≡ 0)
    × ((h.transport_stream_id ≡ 0) × ((h.original_network_id ≡ 0)
    × ((h.version_number ≡ 0) × ((h.current_next_indicator ≡ 0) × ((h.section_number ≡ 0) × (h.last_section_number ≡ 0)))))))))
    → h ≡ bare 0
bare_zeros h z = zeros z

part_of : {a n : ℕ} → (a ≡ 0) × (n ≡ 0) → ◌≡◌ {A = Part} (record { start = a; size = n }) no_part
part_of (a, n) = rw (a, n)

pub part_zeros : (p : Part) → (p.start ≡ 0) × (p.size ≡ 0) → p ≡ no_part
part_zeros p z = part_of z
