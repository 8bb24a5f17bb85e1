-- The law of the encoding of a reading.
use Rattle.scale_info.specs.Encodings.{IsEncoding}
use Rattle.scale_info.specs.IntegerLaws.{u32_law}
use Rattle.scale_info.specs.PartLaws.{pair_law, through_law}
use Rattle.example_callers.specs.Temperatures.{EncodesReading, reading_parts}

-- readings have one encoding each, since pairs of numbers have
pub reading_law : IsEncoding EncodesReading
reading_law = through_law reading_parts
    (λ v w e i. record { seconds = (e i).0; centikelvins = (e i).1 }) (pair_law u32_law u32_law)
