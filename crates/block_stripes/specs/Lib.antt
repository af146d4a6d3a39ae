pub mod StripeRows
pub mod StripeEncodings
pub mod StripeReadings
pub mod Stripes
pub mod StripeStarts
