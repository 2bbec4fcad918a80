pub mod XorForm
