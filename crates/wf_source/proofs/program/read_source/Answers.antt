use Rattle.std.proofs.Common.{rules, IfErr, ◌≡◌, Err, sym, subst}
use Rattle.wf_ast.specs.View.{program_view}
use Rattle.wf_check.specs.Check.{IsCheckFault}
use Rattle.wf_check.specs.Said.{Said}
use Rattle.wf_check.specs.declared.top.CheckFault.TheVariants as check
use Rattle.wf_syntax_rules.specs.declared.fault.SyntaxFault.TheVariants as syntax
use Rattle.wf_source.specs.Programs.{IsRefusalOf, no_program, no_check, refusal_of, said_refusal}
use Rattle.wf_source.specs.Views.{TellsOf}
use Rattle.wf_source.proofs.Programs.{refused_as_tree}
use Rattle.wf_source.proofs.program.read_source.Goals as goal
use Rattle.wf_syntax.specs.Answers.{IsSyntaxFault}
use Rattle.wf_tree.specs.Plain.{plain_tree}

pub returns-in_err-tree-clause-fault : goal.returns-in_err-tree-clause-fault
returns-in_err-tree-clause-fault c =
    let is : c.from_residual.result ≡ Err c.in_err-tree.field-0.0 = search rules in
    subst (λ r. IfErr r (TellsOf (IsRefusalOf c.args.bytes.now))) (sym is) (refused_as_tree c.args.bytes.now c.in_err-tree.field-0.0 c.in_err-tree.ensures.fault)

pub returns-in-Err-Refused-clause-fault : goal.returns-in-Err-Refused-clause-fault
returns-in-Err-Refused-clause-fault c =
    let is : c.in-Err-Refused.field-0 ≡ syntax.Refused c.in-Err-Refused.kind c.in-Err-Refused.path = search rules in
    let same : c.refusal_of.result ≡ refusal_of c.in-Err-Refused.kind c.in-Err-Refused.path = search rules in
    subst (λ r. IsRefusalOf c.args.bytes.now r) (sym same)
    (no_program (plain_tree c.in_ok-tree.tree) c.in-Err-Refused.kind c.in-Err-Refused.path c.in_ok-tree.ensures.tree
    (subst (λ f. IsSyntaxFault (plain_tree c.in_ok-tree.tree) f) is c.in-Err-Refused.ensures.fault))

pub returns-in-Err-Refused-check-clause-fault : goal.returns-in-Err-Refused-check-clause-fault
returns-in-Err-Refused-check-clause-fault c =
    let is : c.in-Err-Refused-check.field-0 ≡ check.Refused c.in-Err-Refused-check.kind c.in-Err-Refused-check.path = search rules in
    let said : Said = record { kind = c.in-Err-Refused-check.kind; place = c.in-Err-Refused-check.path } in
    let same : c.said_refusal.result ≡ said_refusal said = search rules in
    subst (λ r. IsRefusalOf c.args.bytes.now r) (sym same)
    (no_check (plain_tree c.in_ok-tree.tree) (program_view c.in-Ok.program) said c.in_ok-tree.ensures.tree c.in-Ok.ensures.program
    (subst (λ f. IsCheckFault (program_view c.in-Ok.program) f) is c.in-Err-Refused-check.ensures.fault))
