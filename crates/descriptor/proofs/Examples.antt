-- A descriptor of each layout that `delivery/Printed` has none of, put together by hand from clause 6.2 of EN 300 468,
-- each of its fields told from its neighbours: the checker reads it.
use mathlib.Core.Path.{◌≡◌, refl}
use mathlib.Core.Bool.{true, false}
use mathlib.Core.List.{[], ◌∷◌}
use lib.IntN.{pos, neg_ℤ}
use Rattle.std.specs.Prelude.{Some}
use Rattle.wire.specs.Reading.{value}
use Rattle.wire.specs.Number.{number_at, bits_at}
use Rattle.wire.specs.Digits.{bcd_after, bcd_of}
use Rattle.clock.specs.Field.{field, hms}
use Rattle.clock.specs.Time.{time_at}
use Rattle.clock.specs.Offset.{offset_at}
use Rattle.layout.specs.Body.{framed, fixed}
use Rattle.layout.specs.Items.{items, place, item}
use Rattle.layout.specs.Texts.{two_texts}
use Rattle.texts.specs.Service as service
use Rattle.texts.specs.ShortEvent as short-event
use Rattle.lists.specs.Content.{content}
use Rattle.lists.specs.ServiceList.{service_list}
use Rattle.lists.specs.ParentalRating.{parental_rating}
use Rattle.lists.specs.LocalTimeOffset as offsets
use Rattle.delivery.specs.Terrestrial.{terrestrial}

-- 498 MHz; 010 1 0 1 11, 10 001 011, 100 01 10 1
pub terrestrial_example : terrestrial (0x5A ∷ 0x0B ∷ 0x02 ∷ 0xF7 ∷ 0xE3 ∷ 0x40 ∷ 0x57 ∷ 0x8B ∷ 0x8D ∷ 0xFF ∷ 0xFF ∷ 0xFF ∷ 0xFF ∷ [])
    ≡ value (record {
      centre_frequency = record { 0 = 49_800_000 };
      bandwidth = 2;
      priority = true;
      time_slicing_indicator = false;
      mpe_fec_indicator = true;
      constellation = 2;
      hierarchy_information = 1;
      code_rate_hp_stream = 3;
      code_rate_lp_stream = 4;
      guard_interval = 1;
      transmission_mode = 2;
      other_frequency_flag = true;
    })
unfolding terrestrial fixed framed number_at bits_at
terrestrial_example = refl

-- GBR; region 5, 1, polarity 1; 03:30 behind UTC, from 1993-10-13 12:45:00 on 02:15
pub offset_example : offsets.localTimeOffset
    (0x58 ∷ 0x0D ∷ 0x47 ∷ 0x42 ∷ 0x52 ∷ 0x17 ∷ 0x03 ∷ 0x30 ∷ 0xC0 ∷ 0x79 ∷ 0x12 ∷ 0x45 ∷ 0x00 ∷ 0x02 ∷ 0x15 ∷ []) 0
    ≡ value (record {
      country_code = 0x474252;
      country_region_id = 5;
      local_time_offset = neg_ℤ (pos 210);
      time_of_change = Some (record { mjd = 0xC079; clock = record { hour = 12; minute = 45; second = 0 } });
      next_time_offset = neg_ℤ (pos 135);
    })
unfolding offsets.localTimeOffset offsets.fields offsets.offset_in offsets.time_in item place items framed number_at bits_at
    time_at offset_at hms field bcd_of bcd_after
offset_example = refl

-- two services: 0x1020 of type 0x01 and 0x1038 of type 0x02
pub service_list_example : service_list (0x41 ∷ 0x06 ∷ 0x10 ∷ 0x20 ∷ 0x01 ∷ 0x10 ∷ 0x38 ∷ 0x02 ∷ []) 1
    ≡ value (record { service_id = 0x1038; service_type = 0x02 })
unfolding service_list item place items framed number_at
service_list_example = refl

pub content_example : content (0x54 ∷ 0x04 ∷ 0x12 ∷ 0x34 ∷ 0x56 ∷ 0x78 ∷ []) 1
    ≡ value (record { content_nibble_level_1 = 5; content_nibble_level_2 = 6; user_byte = 0x78 })
unfolding content item place items framed bits_at
content_example = refl

-- GBR, at least 7 years
pub rating_example : parental_rating (0x55 ∷ 0x04 ∷ 0x47 ∷ 0x42 ∷ 0x52 ∷ 0x04 ∷ []) 0
    ≡ value (record { country_code = 0x474252; rating = 4 })
unfolding parental_rating item place items framed number_at
rating_example = refl

-- type 0x01, "AB" and "CDE"
pub service_example : service.service (0x48 ∷ 0x08 ∷ 0x01 ∷ 0x02 ∷ 0x41 ∷ 0x42 ∷ 0x03 ∷ 0x43 ∷ 0x44 ∷ 0x45 ∷ [])
    ≡ value (record {
      service_type = 0x01;
      service_provider_name = record { start = 4; length = 2 };
      service_name = record { start = 7; length = 3 };
    })
unfolding service.service service.fields framed two_texts
service_example = refl

-- "fre", "A" and no text
pub short_event_example : short-event.short_event (0x4D ∷ 0x06 ∷ 0x66 ∷ 0x72 ∷ 0x65 ∷ 0x01 ∷ 0x41 ∷ 0x00 ∷ [])
    ≡ value (record {
      language_code = 0x667265;
      event_name = record { start = 6; length = 1 };
      text = record { start = 8; length = 0 };
    })
unfolding short-event.short_event short-event.fields framed two_texts number_at
short_event_example = refl
