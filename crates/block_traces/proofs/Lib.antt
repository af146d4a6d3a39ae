mod IdLaws
mod WalkLaws
mod Stops
