-- The greatest level of a program.
pub use Rattle.expr_parser.specs.Input.{max_level}
