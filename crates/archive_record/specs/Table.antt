-- The places of the fields in a record of revision B.
use Rattle.std.specs.Prelude.{ℕ, List, [], ◌∷◌, codes, map, slice_index_or, Some, None}
use Rattle.std.specs.declared.option.Option.{Option}
use Rattle.archive_record.specs.declared.kind.Kind.{Kind}
use Rattle.archive_record.specs.declared.kind.Kind.TheVariants.{SignedWord, Word, Byte, Degrees}
use Rattle.archive_record.specs.declared.place.Place.{Place}

-- A field: its name, and where it stands.
pub record FieldPlace : Type 0 where
  pub name : List ℕ
  pub place : Place

-- a place at this offset, of this kind and with this mark
abbrev pub place : ℕ → Kind → Option ℕ → Place
place offset kind mark = record { offset = offset; kind = kind; mark = mark }

-- a field of this name at this offset, of this kind and with this mark
abbrev pub named_place : List ℕ → ℕ → Kind → Option ℕ → FieldPlace
named_place name offset kind mark = record { name = name; place = place offset kind mark }

-- the fields by their numbers (Davis serial manual, "DMP and DMPAFT data format"; names and marks are this project's
-- profile). A mark is told as the bytes are, without a sign: 32,768 is the least of the signed numbers.
unfoldable pub field_places : List FieldPlace
field_places =
    named_place (codes "outTemp") 4 SignedWord (Some 32767)
    ∷ named_place (codes "highOutTemp") 6 SignedWord (Some 32768)
    ∷ named_place (codes "lowOutTemp") 8 SignedWord (Some 32767)
    ∷ named_place (codes "rain") 10 Word None
    ∷ named_place (codes "highRainRate") 12 Word None
    ∷ named_place (codes "barometer") 14 Word (Some 0)
    ∷ named_place (codes "radiation") 16 Word (Some 32767)
    ∷ named_place (codes "windSamples") 18 Word None
    ∷ named_place (codes "inTemp") 20 SignedWord (Some 32767)
    ∷ named_place (codes "inHumidity") 22 Byte (Some 255)
    ∷ named_place (codes "outHumidity") 23 Byte (Some 255)
    ∷ named_place (codes "windSpeed") 24 Byte (Some 255)
    ∷ named_place (codes "windGust") 25 Byte None
    ∷ named_place (codes "windGustDir") 26 Byte (Some 255)
    ∷ named_place (codes "windDir") 27 Byte (Some 255)
    ∷ named_place (codes "UV") 28 Byte (Some 255)
    ∷ named_place (codes "ET") 29 Byte None
    ∷ named_place (codes "highRadiation") 30 Word (Some 32767)
    ∷ named_place (codes "highUV") 32 Byte (Some 255)
    ∷ named_place (codes "forecastRule") 33 Byte (Some 193)
    ∷ named_place (codes "leafTemp1") 34 Degrees (Some 255)
    ∷ named_place (codes "leafTemp2") 35 Degrees (Some 255)
    ∷ named_place (codes "leafWet1") 36 Byte (Some 255)
    ∷ named_place (codes "leafWet2") 37 Byte (Some 255)
    ∷ named_place (codes "soilTemp1") 38 Degrees (Some 255)
    ∷ named_place (codes "soilTemp2") 39 Degrees (Some 255)
    ∷ named_place (codes "soilTemp3") 40 Degrees (Some 255)
    ∷ named_place (codes "soilTemp4") 41 Degrees (Some 255)
    ∷ named_place (codes "extraHumid1") 43 Byte (Some 255)
    ∷ named_place (codes "extraHumid2") 44 Byte (Some 255)
    ∷ named_place (codes "extraTemp1") 45 Degrees (Some 255)
    ∷ named_place (codes "extraTemp2") 46 Degrees (Some 255)
    ∷ named_place (codes "extraTemp3") 47 Degrees (Some 255)
    ∷ named_place (codes "soilMoist1") 48 Byte (Some 255)
    ∷ named_place (codes "soilMoist2") 49 Byte (Some 255)
    ∷ named_place (codes "soilMoist3") 50 Byte (Some 255)
    ∷ named_place (codes "soilMoist4") 51 Byte (Some 255)
    ∷ []

-- the place of each field by its number
unfoldable pub places : List Place
places = map (λ f. f.place) field_places

abbrev pub place_of : ℕ → Place
place_of field = slice_index_or places field (place 0 Byte None)
