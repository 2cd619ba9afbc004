mod SelectsAgree
mod StampsFit
mod UpdatesAgree
