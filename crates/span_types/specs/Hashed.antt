-- ---- for private clauses: what of a value, an attribute, a resource or a scope goes into a hash
use Rattle.std.specs.Prelude.{◌++◌, List}
use Rattle.std.specs.Hash.{HashWrites}
use Rattle.std.specs.Hash as fed
use Rattle.span_types.specs.declared.attrs.Attr.{Attr}
use Rattle.span_types.specs.declared.attrs.AttrValue.{AttrValue}
use Rattle.span_types.specs.declared.attrs.AttrValue.TheVariants.{Text, Whole, Truth}
use Rattle.span_types.specs.declared.attrs.Resource.{Resource}
use Rattle.span_types.specs.declared.attrs.Scope.{Scope}

abbrev pub value_input : AttrValue → HashWrites
value_input (Text text) = fed.str text
value_input (Whole number) = fed.i64 number
value_input (Truth truth) = fed.bool truth

abbrev pub attr_input : Attr → HashWrites
attr_input attr = fed.str attr.key ++ value_input attr.value

abbrev pub attrs_input : List Attr → HashWrites
attrs_input attrs = fed.slice attr_input attrs

abbrev pub resource_input : Resource → HashWrites
resource_input resource = attrs_input resource.attrs

abbrev pub scope_input : Scope → HashWrites
scope_input scope = fed.str scope.name ++ fed.str scope.version ++ attrs_input scope.attrs
