use Rattle.std.proofs.Common.{option_map}
use Rattle.wf_ast.specs.Func.{SpecialListing, func_named, special_named}
use Rattle.wf_check_expressions.proofs.Table.{found, lacks}
use Rattle.wf_check_expressions.proofs.signature.signature.Goals as goal

pub returns-in-Some : goal.returns-in-Some
returns-in-Some c =
    found c.function_named.result (option_map (λ (e : SpecialListing). e.signature) (special_named c.args.name.now)) (func_named c.args.name.now) c.in-Some.function c.in-Some.is c.function_named.ensures

pub returns-in-None : goal.returns-in-None
returns-in-None c =
    lacks c.function_named.result (option_map (λ (e : SpecialListing). e.signature) (special_named c.args.name.now)) (func_named c.args.name.now) _ c.in-None.is c.function_named.ensures c.special_signature.ensures
