mod Units
mod FirstChoice
