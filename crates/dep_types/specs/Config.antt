-- Which configurations a server can be set up with.
use Rattle.std.specs.Prelude.{ℕ}
use Rattle.dep_types.specs.Base.{IsBase}
use Rattle.dep_types.specs.Limits.{IsLimit}
use Rattle.dep_types.specs.declared.config.Config.{Config}
use Rattle.dep_types.specs.declared.config.ConfigFault.{ConfigFault}
use Rattle.dep_types.specs.declared.config.ConfigFault.TheVariants.{Base, Limit, Memory}

-- sizes in bytes, a count of segments and a time in seconds, none above its greatest
pub record HasLimits (config : Config) : Type 0 where
  pub upload : IsLimit config.max_upload 16777216
  pub assembled : IsLimit config.max_assembled 17179869184
  pub segments : IsLimit config.max_segments 10000
  pub idle : IsLimit config.staging_max_idle 31536000

-- the base is one, and no limit is 0 or too great
pub record IsChecked (config : Config) : Type 0 where
  pub base : IsBase config.base
  pub limits : HasLimits config

-- the number of each reason why a configuration is refused, 1 to 3
abbrev pub config_fault_number : ConfigFault → ℕ
config_fault_number Base = 1
config_fault_number Limit = 2
config_fault_number Memory = 3
