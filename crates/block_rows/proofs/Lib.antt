pub mod IndexSizes
mod Pages
