use Rattle.dbp_answers.specs.declared.command.Command.TheVariants.{Gen}
use Rattle.dbp_top.proofs.NamedSizes.{named-size}
use Rattle.dbp_top.proofs.top.plain_ending.Goals as goal

pub gen_ending-requires : goal.gen_ending-requires
gen_ending-requires g c =
    let command = Gen c.in-Some-Gen.seed c.in-Some-Gen.size in
    named-size c.args.arguments.now command ((c.command_of.ensures command).0 (let a = c.in-Some-Gen.is in let b = c.in-Some-Gen.field-0-is in cc))
