pub mod Apply
pub mod Change
pub mod ChangeOf
pub mod Facts
pub mod Laws
pub mod Plain
