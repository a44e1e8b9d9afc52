pub mod NamesInOrder
pub mod FieldsInOrder
pub mod ValuesGiven
pub mod ExampleRead
pub mod ExampleBase
pub mod FirstFaults
pub mod AddressesGiven
