-- What the symbols in memory are to the grammar.
use Rattle.std.specs.Prelude.{List, map}
use Rattle.wf_expr.specs.Symbols.{Sym, Placed, syms}
use Rattle.wf_expr.specs.Symbols as sym
use Rattle.wf_expr.specs.declared.kind.Kind.{Kind}
use Rattle.wf_expr.specs.declared.kind.Kind.TheVariants as kind
use Rattle.wf_expr.specs.declared.kind.Symbol.{Symbol}
use Rattle.wf_value.specs.Data.{null, boolean}

abbrev pub sym_of : Kind → Sym
sym_of (kind.Number n) = sym.number n
sym_of kind.Decimal = sym.decimal
sym_of (kind.Quoted s) = sym.quoted s
sym_of kind.Null = sym.literal null
sym_of (kind.Bool b) = sym.literal (boolean b)
sym_of (kind.Name x) = sym.name x
sym_of (kind.Relation o) = sym.relation o
sym_of (kind.Sign o) = sym.sign o
sym_of (kind.Product o) = sym.product o
sym_of kind.And = sym.and
sym_of kind.Or = sym.or
sym_of kind.Not = sym.not
sym_of kind.Point = sym.point
sym_of kind.Comma = sym.comma
sym_of kind.LeftParen = sym.left_paren
sym_of kind.RightParen = sym.right_paren
sym_of kind.LeftBracket = sym.left_bracket
sym_of kind.RightBracket = sym.right_bracket

abbrev pub placed_of : Symbol → Placed
placed_of x = record { sym = sym_of x.kind; at = x.at }

-- without their places
abbrev pub syms_of : List Symbol → List Sym
syms_of xs = syms (map placed_of xs)
