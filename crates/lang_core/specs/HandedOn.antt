pub use Rattle.lang_tree.specs.declared.expr.Expr.{Expr}
pub use Rattle.lang_tree.specs.declared.expr.Expr.TheFolds.{fold-Expr}
pub use Rattle.lang_tree.specs.declared.expr.Expr.TheOpen.{Expr-F}
pub use Rattle.lang_tree.specs.declared.expr.Op.{Op}
pub use Rattle.lang_tree.specs.declared.expr.Op.TheVariants.{Add, Equal, Join, Less, Mul, Sub}
pub use Rattle.lang_tree.specs.declared.method.Method.{Method}
pub use Rattle.lang_tree.specs.declared.method.Method.TheVariants.{Delete, Get, Post, Put}
pub use Rattle.lang_tree.specs.declared.program.Route.{Route}
