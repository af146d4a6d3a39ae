pub mod InfoParts
