-- What a reader has to believe about a property file: its masks, when it is refused, and the property that it holds.
pub mod Property
