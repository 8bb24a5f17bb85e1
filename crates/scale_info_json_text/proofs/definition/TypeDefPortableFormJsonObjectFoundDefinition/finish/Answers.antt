use Rattle.scale_info_json_text.proofs.Definitions.{none_is_meant}
use Rattle.scale_info_json_text.proofs.definition.TypeDefPortableFormJsonObjectFoundDefinition.finish.Goals as goal

pub returns-in-Nothing : goal.returns-in-Nothing
returns-in-Nothing c = λ ms h. none_is_meant c.args.found ms c.in-Nothing.is h
