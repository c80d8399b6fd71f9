-- The fields of an archive record: what each is called, and in what it is counted.
use Rattle.std.specs.Prelude.{ℕ, List, [], ◌∷◌, codes, slice_index_or, bytes_eq}
use Rattle.std.specs.declared.option.Option.{Option}
use Rattle.std.specs.List.{position}

-- how many fields a record has
abbrev pub field_count : ℕ
field_count = 37

-- A field: its name, and the unit in which it is counted.
pub record FieldText : Type 0 where
  pub name : List ℕ
  pub unit : List ℕ

-- a field of this name and unit
abbrev pub field : List ℕ → List ℕ → FieldText
field name unit = record { name = name; unit = unit }

-- the fields of a record of revision B in the order of their numbers (Davis serial manual; the names are near WeeWX's)
unfoldable pub fields : List FieldText
fields =
    field (codes "outTemp") (codes "0.1 F")
    ∷ field (codes "highOutTemp") (codes "0.1 F")
    ∷ field (codes "lowOutTemp") (codes "0.1 F")
    ∷ field (codes "rain") (codes "clicks")
    ∷ field (codes "highRainRate") (codes "clicks per hour")
    ∷ field (codes "barometer") (codes "0.001 inHg")
    ∷ field (codes "radiation") (codes "W/m2")
    ∷ field (codes "windSamples") (codes "count")
    ∷ field (codes "inTemp") (codes "0.1 F")
    ∷ field (codes "inHumidity") (codes "percent")
    ∷ field (codes "outHumidity") (codes "percent")
    ∷ field (codes "windSpeed") (codes "mph")
    ∷ field (codes "windGust") (codes "mph")
    ∷ field (codes "windGustDir") (codes "code")
    ∷ field (codes "windDir") (codes "code")
    ∷ field (codes "UV") (codes "0.1 index")
    ∷ field (codes "ET") (codes "0.001 inch")
    ∷ field (codes "highRadiation") (codes "W/m2")
    ∷ field (codes "highUV") (codes "0.1 index")
    ∷ field (codes "forecastRule") (codes "code")
    ∷ field (codes "leafTemp1") (codes "F")
    ∷ field (codes "leafTemp2") (codes "F")
    ∷ field (codes "leafWet1") (codes "scale")
    ∷ field (codes "leafWet2") (codes "scale")
    ∷ field (codes "soilTemp1") (codes "F")
    ∷ field (codes "soilTemp2") (codes "F")
    ∷ field (codes "soilTemp3") (codes "F")
    ∷ field (codes "soilTemp4") (codes "F")
    ∷ field (codes "extraHumid1") (codes "percent")
    ∷ field (codes "extraHumid2") (codes "percent")
    ∷ field (codes "extraTemp1") (codes "F")
    ∷ field (codes "extraTemp2") (codes "F")
    ∷ field (codes "extraTemp3") (codes "F")
    ∷ field (codes "soilMoist1") (codes "centibar")
    ∷ field (codes "soilMoist2") (codes "centibar")
    ∷ field (codes "soilMoist3") (codes "centibar")
    ∷ field (codes "soilMoist4") (codes "centibar")
    ∷ []

-- the text of the field of that number
abbrev pub field_text : ℕ → FieldText
field_text index = slice_index_or fields index (field [] [])

-- the name of the field of that number
abbrev pub name_of : ℕ → List ℕ
name_of index = (field_text index).name

-- the unit of the field of that number
abbrev pub field_unit : ℕ → List ℕ
field_unit index = (field_text index).unit

-- the number of the field of exactly this name
unfoldable pub field_named : List ℕ → Option ℕ
field_named name = position (λ field. bytes_eq field.name name) fields
