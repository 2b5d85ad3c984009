-- The writers of texts at work: the descriptors that `descriptor/Examples` reads.
use mathlib.Core.Path.{◌≡◌, refl}
use mathlib.Core.List.{[], ◌∷◌}
use Rattle.wire.specs.Reading.{value, refused}
use Rattle.forms.specs.Fields.{room, pack}
use Rattle.writing.specs.Number.{ofNumber}
use Rattle.writing.specs.Fill.{filled, made, below}
use Rattle.write_texts.specs.Texts.{two_texts}
use Rattle.write_texts.specs.NetworkName.{network_name_written}
use Rattle.write_texts.specs.Stuffing.{stuffing_written}
use Rattle.write_texts.specs.Service.{service_written}
use Rattle.write_texts.specs.ShortEvent.{short_event_written}

pub name_at_work : network_name_written (0x41 ∷ 0x42 ∷ []) ≡ value (0x40 ∷ 0x02 ∷ 0x41 ∷ 0x42 ∷ [])
unfolding network_name_written
name_at_work = refl

-- no byte of stuffing, and bytes that are no ones
pub stuffing_at_work : (stuffing_written [] ≡ value (0x42 ∷ 0x00 ∷ []))
    × (stuffing_written (0x00 ∷ 0x7F ∷ []) ≡ value (0x42 ∷ 0x02 ∷ 0x00 ∷ 0x7F ∷ []))
unfolding stuffing_written
stuffing_at_work = (refl, refl)

-- type 0x01, "AB" and "CDE"
pub service_at_work : service_written (record {
  service_type = 0x01;
  service_provider_name = 0x41 ∷ 0x42 ∷ [];
  service_name = 0x43 ∷ 0x44 ∷ 0x45 ∷ [];
})
    ≡ value (0x48 ∷ 0x08 ∷ 0x01 ∷ 0x02 ∷ 0x41 ∷ 0x42 ∷ 0x03 ∷ 0x43 ∷ 0x44 ∷ 0x45 ∷ [])
unfolding service_written two_texts below made filled pack room ofNumber
service_at_work = refl

-- "fre", "A" and no text; and a language of four characters
pub short_event_at_work : short_event_written (record { language_code = 0x667265; event_name = 0x41 ∷ []; text = [] })
    ≡ value (0x4D ∷ 0x06 ∷ 0x66 ∷ 0x72 ∷ 0x65 ∷ 0x01 ∷ 0x41 ∷ 0x00 ∷ [])
unfolding short_event_written two_texts below made filled pack room ofNumber
short_event_at_work = refl

pub short_event_outside : short_event_written (record { language_code = 0x1000000; event_name = []; text = [] })
    ≡ refused 112
unfolding short_event_written below
short_event_outside = refl
