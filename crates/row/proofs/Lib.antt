pub mod Row
pub mod Origins
