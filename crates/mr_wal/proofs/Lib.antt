mod FieldLaws
mod Batches
mod OperationLaws
mod OperationFitting
mod RecordLaws
mod WritingLaws
mod Lengths
