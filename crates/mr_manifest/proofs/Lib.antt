mod FieldLaws
mod Decoding
mod WritingLaws
mod SumLaws
mod OpenLaws
mod Worked
